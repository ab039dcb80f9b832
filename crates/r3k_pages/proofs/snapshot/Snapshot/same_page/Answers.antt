use Rattle.std.proofs.Common.{◌≡◌, ◌/◌, List, ℕ, ap, sym, ◌∙◌, slice_index, ◌%◌, ◌+◌, ◌*◌, ◌<◌, arith}
use Rattle.std.proofs.lemmas.Grind.{same_number_lists}
use Rattle.r3k_word.specs.declared.layout.TheConstants.{PAGE_WORDS}
use Rattle.r3k_pages.proofs.snapshot.Snapshot.same_page.Goals as goal

pub returns : goal.returns
returns g c =
    let a = c.deref.result.now in
    let b = c.deref-2.result.now in (
      λ equal place of.
          sym (c.page.ensures place of)
          ∙ (ap (λ (words : List ℕ). slice_index words (place % PAGE_WORDS)) (sym c.deref.ensures ∙ (c.is_same.ensures.same.0 equal ∙ c.deref-2.ensures))
          ∙ c.page-2.ensures place of),
      λ same.
          c.is_same.ensures.same.1 (same_number_lists a b (c.is_same.ensures.whole.0 ∙ sym c.is_same.ensures.whole.1)
          (λ k within.
          let place = c.args.page * 1024 + k in
          let short : k < 1024 = rw (sym c.is_same.ensures.whole.0) within in
          let here : place / 1024 ≡ c.args.page = omega (arith, short) in
          let at : place % 1024 ≡ k = omega (arith, short) in
          ap (λ (words : List ℕ). slice_index words k) c.deref.ensures
          ∙ (ap (slice_index c.page.result.now.value) (sym at)
          ∙ (c.page.ensures place here ∙ (same place here ∙ (sym (c.page-2.ensures place here)
          ∙ (ap (slice_index c.page-2.result.now.value) at ∙ ap (λ (words : List ℕ). slice_index words k) (sym c.deref-2.ensures)))))))),
    )
