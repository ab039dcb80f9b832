use Rattle.std.proofs.Common.{◌/◌, slice_set, sym, subst}
use Rattle.write_index.specs.Tree.{IsLevel, IsTree, IsTreeBut, bottom}
use Rattle.write_index.proofs.Putting.{but_after, but_room, put_alone, put_pair}
use Rattle.write_index.proofs.tree.+put.Goals as goal
use Rattle.write_index.proofs.tree.+put.Goals.{else-pair-count, then-pair-count+in_ok-both+in_ok-put}

pub returns-after-pair-count-clause-tree : goal.returns-after-pair-count-clause-tree
returns-after-pair-count-clause-tree t c =
    let level = c.in-Some.level.now in
    let node = c.args.node in
    let count = c.args.count in
    let but = subst (λ levels. IsTreeBut node count levels) c.in-Some.ensures.cases.0 c.requires.tree in
    subst (λ level. IsLevel count level (bottom c.if-pair-count.above) × IsTree (count / 2) c.if-pair-count.above) (sym c.put-in-Some.ensures)
    (elim c.if-pair-count.branch [
      | then-pair-count+in_ok-both+in_ok-put w ↦
          subst (λ above. IsLevel count (slice_set level node c.args.set) (bottom above) × IsTree (count / 2) above) (sym w.above-is) (
            put_pair level (bottom c.in-Some.above.now) (bottom w.put.new.levels) node count c.args.set _ but.0
                (but_room c.in-Some.above.now (node / 2) (count / 2) w.if-pair-count.true but.1) (w.in_ok-put.ensures {u = tt}).bottom (w.in_ok-both.ensures {u = tt}),
            (w.in_ok-put.ensures {u = tt}).tree,
          )
      | else-pair-count w ↦
          subst (λ above. IsLevel count (slice_set level node c.args.set) (bottom above) × IsTree (count / 2) above) (sym w.above-is) (
            put_alone level (bottom c.in-Some.above.now) node count c.args.set but.0 w.if-pair-count.false,
            but_after c.in-Some.above.now (node / 2) (count / 2) w.if-pair-count.false but.1,
          )
    ])
