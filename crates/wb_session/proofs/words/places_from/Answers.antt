use Rattle.std.proofs.Common.{◌≡◌, ◌+◌, ◌*◌, ◌%◌, ◌^◌, ◌<◌, IfSome, subst, Some, None, Option, ℕ, refl, sym, ap, ◌∙◌, arith}
use Rattle.r3k_word.specs.Layout.{place_of_word}
use Rattle.wb_session.proofs.Places.{places_from-zero, places_from-more, not_memory}
use Rattle.wb_session.proofs.words.places_from.Goals as goal

pub loop-word-init : goal.loop-word-init
loop-word-init g c = record {
  places = rw (places_from-zero, c.new-places.ensures) refl;
  len = rw c.new-places.ensures refl;
  within = omega (arith, c.get.ensures.value, c.get.ensures.most);
}

pub returns-in-None-clause-places : goal.returns-in-None-clause-places
returns-in-None-clause-places g c =
    let pages = g.row.PAGES in
    let word = c.loop-word.word in
    let even : c.args.address % 4 ≡ 0 = omega (arith, c.get.ensures.value, c.if-get-ne0.false) in
    let none : place_of_word pages (c.args.address + 4 * word) ≡ None = ap (λ (a : ℕ). place_of_word pages (a + 4 * word)) (sym c.get-in-loop-word.ensures.value) ∙ (sym c.place_at.ensures.place ∙ c.in-None.is) in
    not_memory pages c.args.address word c.args.count c.loop-word.places.items even c.loop-word.invariant.places none (omega (arith, c.loop-word-test.true, c.get-word-end.ensures.value))

pub loop-word-preserved : goal.loop-word-preserved
loop-word-preserved g c =
    let pages = g.row.PAGES in
    let word = c.loop-word.word in
    let some : place_of_word pages (c.args.address + 4 * word) ≡ Some c.in-Some.place = ap (λ (a : ℕ). place_of_word pages (a + 4 * word)) (sym c.get-in-loop-word.ensures.value) ∙ (sym c.place_at.ensures.place ∙ c.in-Some.is) in
    let even : c.args.address % 4 ≡ 0 = omega (arith, c.get.ensures.value, c.if-get-ne0.false) in
    let within = subst (λ (o : Option ℕ). IfSome o (λ _. c.get-in-loop-word.result + 4 * word < 2 ^ 32)) c.in-Some.is c.place_at.ensures.within in
    record {
      places = rw (places_from-more pages c.args.address word, c.loop-word.invariant.places, some, c.push.ensures.items) refl;
      len = omega (arith, c.push.ensures.len, c.loop-word.invariant.len);
      within = omega (arith, within, even, c.get-in-loop-word.ensures.value);
    }
