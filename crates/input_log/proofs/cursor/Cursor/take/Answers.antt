use Rattle.input_log.proofs.Window.{taken, left}
use Rattle.input_log.proofs.cursor.Cursor.take.Goals as goal

pub returns-clause-events : goal.returns-clause-events
returns-clause-events c =
    rw (
      c.split_at-2.ensures.front,
      c.count_up_to.ensures.count,
      c.split_at.ensures.back,
      c.count_before.ensures.count,
      ← c.self.view_is,
    )
    (taken c.args.time c.self.inside.rest.now c.self.invariant.0)

pub returns-clause-left : goal.returns-clause-left
returns-clause-left c =
    rw (
      c.split_at-2.ensures.back,
      c.count_up_to.ensures.count,
      c.split_at.ensures.back,
      c.count_before.ensures.count,
      ← c.self.view_is,
    )
    (left c.args.time c.self.inside.rest.now c.self.invariant.0)
