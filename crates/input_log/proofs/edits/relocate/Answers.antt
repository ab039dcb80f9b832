use Rattle.std.proofs.Common.{rules}
use Rattle.input_log.proofs.Editing.{moved_up, moved_down}
use Rattle.input_log.proofs.edits.relocate.Goals as goal
use Rattle.input_log.proofs.edits.relocate.Goals.{then-from-to, else-from-to}

pub returns : goal.returns
returns c =
    let xs = c.args.events.now.items in
    elim c.if-from-to.branch [
      | then-from-to w ↦
          let moved = w.copy_within.ensures in
          rw w.events-is (moved_up xs w.copy_within.new.self.items c.args.from c.args.to c.args.event w.if-from-to.true c.requires.to_in (search rules)
          moved.by_index.0 moved.by_index.1 moved.by_index.2)
      | else-from-to w ↦
          let moved = w.copy_within-else-from-to.ensures in
          rw w.events-is (moved_down xs w.copy_within-else-from-to.new.self.items c.args.from c.args.to c.args.event w.if-from-to.false c.requires.from_in (search rules)
          moved.by_index.0 moved.by_index.1 moved.by_index.2)
    ]
