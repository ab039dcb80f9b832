use Rattle.std.proofs.Common.{◌∙◌, sym, arith, inl, inr}
use Rattle.std.proofs.lemmas.Bool.{cases_lt}
use Rattle.r3k_pages.proofs.Removed.{past_same}
use Rattle.r3k_pages.proofs.page_marks.mark_differing.Goals as goal

pub returns-clause-exact : goal.returns-clause-exact
returns-clause-exact g c =
    λ page.
    elim (cases_lt page c.loop-page.page) [
      | inl below ↦ c.loop-page.invariant.exact page below
      | inr past ↦
          let rest = c.loop-page.invariant.rest page past in (
            λ held. inl (sym rest ∙ held),
            λ either.
                elim either [
                  | inl held ↦ rest ∙ held
                  | inr apart ↦
                      absurd (apart (past_same g.row.PAGES c.args.a.now c.args.b.now page c.whole.ensures c.whole-2.ensures (omega (arith, past, c.loop-page-test.false))))
                ],
          )
    ]
