use Rattle.std.proofs.Common.{arith}
use Rattle.present_run.proofs.Held.{held_by}
use Rattle.present_run.proofs.present.Present.recent_states.Goals as goal

pub returns-clause-inside : goal.returns-clause-inside
returns-clause-inside g c = λ position there.
    let state = held_by c.args.self.now.recent_states position there in
    (c.args.self.now.are_recent (position, state.0) state.1).inside

pub returns-clause-served : goal.returns-clause-served
returns-clause-served g c = λ position there index below.
    let state = held_by c.args.self.now.recent_states position there in
    let recent = c.args.self.now.are_recent (position, state.0) state.1 in
    (c.args.self.now.of.records.joined index (omega (arith, below, recent.joined))).near
