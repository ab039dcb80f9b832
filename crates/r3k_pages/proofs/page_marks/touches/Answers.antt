use Rattle.std.proofs.Common.{◌≡◌, ◌∙◌, ℕ, ◌-◌, ◌+◌, ◌*◌, ◌/◌, ◌%◌, Bool, true, false, List, length, slice_index_or, inl, inr, refl, sym, ap, arith}
use Rattle.std.specs.List.{list_any}
use Rattle.std.proofs.lemmas.Bool.{cases_Bool, cases_lt, ltb-false, ltb-true, true≢false}
use Rattle.std.proofs.lemmas.List.{get_or-drop, get_or_past}
use Rattle.std.proofs.lemmas.List.Folds.{list_any_at}
use Rattle.r3k_pages.specs.declared.group.TheConstants.{GROUP_PAGES}
use Rattle.r3k_pages.specs.Pages.{holds}
use Rattle.r3k_pages.proofs.Blocks.{chunk_at}
use Rattle.r3k_pages.proofs.page_marks.touches.Goals as goal

-- among marks of which none is set
unmarked : (test : Bool → Bool) (marks : List Bool) (place : ℕ) → test true ≡ true → list_any test marks ≡ false → slice_index_or marks place false ≡ false
unmarked test marks place passes none =
    elim (cases_lt place (length marks)) [
      | inl inside ↦
          elim (cases_Bool (slice_index_or marks place false)) [
            | inl is ↦ absurd (true≢false (sym (list_any_at test marks place false inside (ap test is ∙ passes)) ∙ none))
            | inr other ↦ other
          ]
      | inr past ↦ get_or_past marks place false (omega (arith, past))
    ]

pub returns-in-Some : goal.returns-in-Some
returns-in-Some g c =
    λ none page of.
    let marks = c.deref.result.now in
    let found = (c.in-Some.ensures {u = tt}).lookup in
    let place = page % GROUP_PAGES in
    ap (λ (set : List ℕ). holds set page) (sym c.set.view_is)
    ∙ sym (ap (λ (xs : List Bool). slice_index_or xs page false) c.deref.ensures.value ∙ c.set.invariant.marked page)
    ∙ ap (λ (n : ℕ). slice_index_or marks n false) (let e : page ≡ c.args.group * GROUP_PAGES + place = omega (arith, of) in e)
    ∙ sym (chunk_at GROUP_PAGES (length marks / GROUP_PAGES) marks c.args.group place c.in-Some.marks.now false
    (omega (arith, ltb-true _ _ (sym found.0), c.as_chunks.ensures.front_len)) (omega arith))
    ∙ sym (ap (λ (xs : List Bool). slice_index_or xs place false) (found.1 ∙ ap (λ (xs : List (List Bool)). slice_index_or xs c.args.group c.in-Some.marks.now) c.as_chunks.ensures.front))
    ∙ unmarked _ c.in-Some.marks.now place refl (sym c.contains.ensures.value ∙ none)

pub returns-in-None : goal.returns-in-None
returns-in-None g c =
    λ none page of.
    let marks = c.deref.result.now in
    let past = (c.in-None.ensures {u = tt}).lookup in
    let start = length marks / GROUP_PAGES * GROUP_PAGES in
    let least = ltb-false _ _ (sym past.0) in
    ap (λ (set : List ℕ). holds set page) (sym c.set.view_is)
    ∙ sym (ap (λ (xs : List Bool). slice_index_or xs page false) c.deref.ensures.value ∙ c.set.invariant.marked page)
    ∙ ap (λ (n : ℕ). slice_index_or marks n false) (let e : page ≡ start + (page - start) = omega (arith, of, least, c.as_chunks.ensures.front_len) in e)
    ∙ sym (ap (λ (xs : List Bool). slice_index_or xs (page - start) false) c.as_chunks.ensures.back ∙ get_or-drop start marks (page - start) false)
    ∙ unmarked _ c.as_chunks.result.1.now (page - start) refl (sym c.contains-in-None.ensures.value ∙ none)
