-- The lowest candidate that matches is the lowest entry that does, and the candidates after it
-- show whether another does.
use Rattle.std.proofs.Common.{sym, ap, ◌∙◌}
use Rattle.tlb64.proofs.Candidates.{found_none, found_as}
use Rattle.tlb64.proofs.Least.{found_with}
use Rattle.tlb64.proofs.tlb.Tlb.lookup.Goals as goal

pub returns-in_err-lowest-clause-found : goal.returns-in_err-lowest-clause-found
returns-in_err-lowest-clause-found c =
    let none = (rw c.set_of.ensures.value at c.in_err-lowest.ensures) in
    rw (← c.self.view_is) (c.from_residual.ensures
    ∙ sym (found_none c.self.inside.entries c.self.inside.sets c.args.address c.args.pid
    c.self.invariant.0 none))

pub returns-clause-found : goal.returns-clause-found
returns-clause-found c =
    let found = (rw c.set_of.ensures.value at c.in_ok-lowest.ensures) in
    let lowest = c.in_ok-lowest.lowest in
    rw (← c.self.view_is) (ap (found_with c.self.inside.entries lowest.place) c.is_some.ensures
    ∙ sym (found_as c.self.inside.entries c.self.inside.sets c.args.address c.args.pid lowest
    c.lowest_match-2.result c.self.invariant.0 found c.lowest_match-2.ensures))
