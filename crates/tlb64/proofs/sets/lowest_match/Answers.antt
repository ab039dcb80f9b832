-- The lowest bit that is left is the lowest candidate not yet compared.
use Rattle.std.proofs.Common.{refl, sym, ◌∙◌, ◌<◌, ◌^◌, arith}
use Rattle.tlb64.proofs.Candidates.{next_passed, lowest_found}
use Rattle.tlb64.proofs.sets.lowest_match.Goals as goal

pub returns-then-matches : goal.returns-then-matches
returns-then-matches c =
    lowest_found c.args.entries.now c.args.address c.args.pid c.args.candidates c.loop-left.left _
    (let some : 0 < c.loop-left.left = omega arith in some)
    (let fits : c.loop-left.left < 2 ^ 64 = omega arith in fits)
    refl c.loop-left.invariant (sym c.matches.ensures ∙ c.if-matches.true)

pub loop-left-preserved : goal.loop-left-preserved
loop-left-preserved c =
    next_passed c.args.entries.now c.args.address c.args.pid c.args.candidates c.loop-left.left _
    (let some : 0 < c.loop-left.left = omega arith in some)
    (let fits : c.loop-left.left < 2 ^ 64 = omega arith in fits)
    refl c.loop-left.invariant (sym c.matches.ensures ∙ c.if-matches.false)
