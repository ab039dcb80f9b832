-- A memory with pages of another one.
use Rattle.std.proofs.Common.{◌≡◌, ℕ, ◌+◌, ◌*◌, ◌/◌, ◌%◌, ◌<◌, ◌≤◌, IsTrue, List, [], if◌then◌else◌, length, nat_lt, slice_index, slice_index_or, sym, ap, subst, ◌∙◌, arith, inl, inr}
use Rattle.std.proofs.lemmas.Bool.{cases_Bool, ltb-false, ltb-true}
use Rattle.std.proofs.lemmas.List.{get_or_past}
use Rattle.std.proofs.lemmas.List.FromFn.{get_or-map-range_with_len, length-map-range_with_len}
use Rattle.r3k_word.specs.Layout.{page_of_place, word_count_of}
use Rattle.r3k_word.specs.declared.layout.TheConstants.{PAGE_WORDS}
use Rattle.r3k_pages.specs.declared.group.TheConstants.{GROUP_PAGES}
use Rattle.r3k_pages.specs.Pages.{SameOutside, SamePage, holds, overlaid}

pub overlaid_long : (set own other : List ℕ) → length (overlaid set own other) ≡ length own
overlaid_long set own other =
    length-map-range_with_len (λ (place : ℕ). if holds set (page_of_place place) then slice_index other place else slice_index own place) 0 (length own)

pub overlaid_at : (set own other : List ℕ) (place : ℕ) → place < length own
    → slice_index (overlaid set own other) place ≡ (if holds set (page_of_place place) then slice_index other place else slice_index own place)
overlaid_at set own other place within =
    get_or-map-range_with_len (λ (place : ℕ). if holds set (page_of_place place) then slice_index other place else slice_index own place) 0 (length own) place place 0 within (omega arith)

-- after the last word
past : (set own other : List ℕ) (place : ℕ) → length own ≤ place → slice_index (overlaid set own other) place ≡ 0
past set own other place above = get_or_past (overlaid set own other) place 0 (subst (λ (n : ℕ). n ≤ place) (sym (overlaid_long set own other)) above)

-- outside the set it is the one memory, and on its pages the other
pub overlaid_outside : (set own other : List ℕ) → SameOutside set own (overlaid set own other)
overlaid_outside set own other place out =
    elim (cases_Bool (nat_lt place (length own))) [
      | inl within ↦ sym (overlaid_at set own other place (ltb-true place (length own) within) ∙ rw out)
      | inr above ↦
          let beyond = ltb-false place (length own) above in
          get_or_past own place 0 beyond ∙ sym (past set own other place beyond)
    ]

pub overlaid_on : (set own other : List ℕ) (page : ℕ) → length own ≡ length other → IsTrue (holds set page) → SamePage page other (overlaid set own other)
overlaid_on set own other page long held place of =
    elim (cases_Bool (nat_lt place (length own))) [
      | inl within ↦ sym (overlaid_at set own other place (ltb-true place (length own) within) ∙ rw (ap (holds set) of ∙ held))
      | inr above ↦
          let beyond = ltb-false place (length own) above in
          get_or_past other place 0 (subst (λ (n : ℕ). n ≤ place) long beyond) ∙ sym (past set own other place beyond)
    ]

-- the words of a group that is made of those of two
pub group_overlaid : (pages group : ℕ) (set own other : List ℕ) (kept_own kept_other kept : List (List ℕ)) (place : ℕ)
    → place < word_count_of pages → page_of_place place / GROUP_PAGES ≡ group → length own ≡ word_count_of pages
    → slice_index_or kept (page_of_place place % GROUP_PAGES) []
    ≡ slice_index_or (if holds set (group * GROUP_PAGES + page_of_place place % GROUP_PAGES) then kept_other else kept_own) (page_of_place place % GROUP_PAGES) []
    → slice_index (slice_index_or kept_own (page_of_place place % GROUP_PAGES) []) (place % PAGE_WORDS) ≡ slice_index own place
    → slice_index (slice_index_or kept_other (page_of_place place % GROUP_PAGES) []) (place % PAGE_WORDS) ≡ slice_index other place
    → slice_index (slice_index_or kept (page_of_place place % GROUP_PAGES) []) (place % PAGE_WORDS) ≡ slice_index (overlaid set own other) place
group_overlaid pages group set own other kept_own kept_other kept place within of long is from_own from_other =
    let p = page_of_place place in
    let here : group * GROUP_PAGES + p % GROUP_PAGES ≡ p = omega (arith, of) in
    let chosen : slice_index_or kept (p % GROUP_PAGES) [] ≡ slice_index_or (if holds set p then kept_other else kept_own) (p % GROUP_PAGES) [] =
    is ∙ ap (λ (n : ℕ). slice_index_or (if holds set n then kept_other else kept_own) (p % GROUP_PAGES) []) here
    in
    let word = overlaid_at set own other place (subst (λ (n : ℕ). place < n) (sym long) within) in
    let value : List (List ℕ) → ℕ = λ from. slice_index (slice_index_or from (p % GROUP_PAGES) []) (place % PAGE_WORDS) in
    let joined : value (if holds set p then kept_other else kept_own) ≡ (if holds set p then slice_index other place else slice_index own place) =
    elim (cases_Bool (holds set p)) [
      | inl held ↦ rw held from_other
      | inr not_held ↦ rw not_held from_own
    ]
    in
    ap (λ (words : List ℕ). slice_index words (place % PAGE_WORDS)) chosen ∙ (joined ∙ sym word)
