use Rattle.input_log.proofs.Window.{in_order, are_within}
use Rattle.input_log.proofs.log.Log.window.Goals as goal

pub returns-clause-in_order : goal.returns-clause-in_order
returns-clause-in_order c =
    rw (c.window_in.ensures, c.deref.ensures.value) (in_order c.args.from c.args.to c.self.inside.events.items c.self.invariant.in_order)

pub returns-clause-within : goal.returns-clause-within
returns-clause-within c = rw c.window_in.ensures (are_within c.args.from c.args.to c.deref.result.now)
