use Rattle.std.proofs.Common.{ℕ, Option, sym, subst, arith}
use Rattle.write_index.specs.Pages.{IsLast}
use Rattle.write_index.specs.Tree.{bottom}
use Rattle.write_index.proofs.Searching.{fewer_digits, last_first, last_none, last_second}
use Rattle.write_index.proofs.search.+last_in.Goals as goal

pub returns-in_err-pair-in-Some-clause-last : goal.returns-in_err-pair-in-Some-clause-last
returns-in_err-pair-in-Some-clause-last t c =
    subst (λ (o : Option ℕ). IsLast (bottom c.args.levels.now) c.args.page c.args.end o) (sym c.from_residual.ensures)
    (last_none c.args.levels.now c.in-Some.level.now c.in-Some.above.now c.args.end c.args.page c.in-Some.ensures.cases.0 c.requires.tree
    (c.look_at_odd.ensures.not c.if-look_at_odd.false) (c.in_err-pair-in-Some.ensures {u = tt}).last)

pub returns-then-look-clause-last : goal.returns-then-look-clause-last
returns-then-look-clause-last t c =
    last_second c.args.levels.now c.in-Some.level.now c.in-Some.above.now c.args.end c.args.page c.in_ok-pair-in-Some.pair c.in-Some.ensures.cases.0 c.requires.tree
    (c.look_at_odd.ensures.not c.if-look_at_odd.false) (c.in_ok-pair-in-Some.ensures {u = tt}).last (sym (c.if-look.ensures {u = tt}).value)

pub returns-else-look-clause-last : goal.returns-else-look-clause-last
returns-else-look-clause-last t c =
    last_first c.args.levels.now c.in-Some.level.now c.in-Some.above.now c.args.end c.args.page c.in_ok-pair-in-Some.pair c.in-Some.ensures.cases.0 c.requires.tree
    (c.look_at_odd.ensures.not c.if-look_at_odd.false) (c.in_ok-pair-in-Some.ensures {u = tt}).last (sym (c.if-look.ensures {u = tt}).value)

pub returns-in_err-pair-in-Some-clause-asked : goal.returns-in_err-pair-in-Some-clause-asked
returns-in_err-pair-in-Some-clause-asked t c = λ digits small.
    let less = fewer_digits c.args.end digits (omega (arith, c.if-end-eq0.false)) small in
    let above = c.last_in.ensures.asked less.0 less.2 in
    omega (arith, above, less.1, c.look_at_odd.ensures.asked)

pub returns-then-look-clause-asked : goal.returns-then-look-clause-asked
returns-then-look-clause-asked t c = λ digits small.
    let less = fewer_digits c.args.end digits (omega (arith, c.if-end-eq0.false)) small in
    let above = c.last_in.ensures.asked less.0 less.2 in
    omega (arith, above, less.1, c.look_at_odd.ensures.asked, c.look.ensures.asked)

pub returns-else-look-clause-asked : goal.returns-else-look-clause-asked
returns-else-look-clause-asked t c = λ digits small.
    let less = fewer_digits c.args.end digits (omega (arith, c.if-end-eq0.false)) small in
    let above = c.last_in.ensures.asked less.0 less.2 in
    omega (arith, above, less.1, c.look_at_odd.ensures.asked, c.look.ensures.asked)
