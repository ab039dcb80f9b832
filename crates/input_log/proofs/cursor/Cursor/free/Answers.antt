use Rattle.std.proofs.Common.{◌+◌, arith}
use Rattle.input_log.proofs.Window.{none_taken}
use Rattle.input_log.proofs.cursor.Cursor.free.Goals as goal

pub returns : goal.returns
returns c = λ k before.
    rw (← c.self.view_is) (none_taken (c.args.time + k) c.self.inside.next_time c.self.inside.rest.now (omega arith) c.self.invariant.1)
