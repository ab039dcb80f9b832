-- The last segment of RAM shows how far the set words of RAM reach.
use Rattle.std.proofs.Common.{◌≡◌, ℕ, ◌+◌, ◌-◌, ◌*◌, ◌/◌, ◌%◌, ◌<◌, ◌≤◌, ◌⊎◌, inl, inr, List, [], ◌∷◌, length, get_or, Option, Some, None, unwrap_or, sym, ap, subst, ◌∙◌, arith}
use Rattle.std.specs.Prelude.{IsTrue, is_some}
use Rattle.std.specs.List.{slice_get}
use Rattle.std.specs.FinMap.{get, contains_key}
use Rattle.std.proofs.lemmas.Option.{slice_get-get_or, same_Some}
use Rattle.r3k_word.specs.declared.layout.TheConstants.{PAGE_WORDS, ROM_START}
use Rattle.std.proofs.lemmas.Bool.{cases_lt}
use Rattle.r3k_image.specs.Boot.{Boot, ram_end, FitsRam, IsBlank}
use Rattle.r3k_image.specs.Segments.{WordsAt, end_of, AreSegments, last_at, IsMadeOf}
use Rattle.r3k_image.proofs.Placing.{last_cases, is_last, cases_option}
use Rattle.r3k_image.proofs.Lookup.{IsSet, is_set, get_aligned}
use Rattle.r3k_image.proofs.Kept.{contained}

-- the last address before ROM
abbrev pub before_rom : ℕ
before_rom = ROM_START - 1

none_is_not_some : {A : Type 0} (o : Option A) (x : A) → o ≡ None → o ≡ Some x → ⊥
none_is_not_some {A = A} o x e f = let g : ◌≡◌ {A = Option A} None (Some x) = sym e ∙ f in cc

-- what begins at or below an address begins at or below each higher one
stays : (q p : ℕ) (ss : List WordsAt) (s : WordsAt) → q ≤ p → last_at q ss ≡ Some s → last_at p ss ≡ None → ⊥
stays q p [] s le some none = cc
stays q p (t ∷ ss) s le some none =
    elim (last_cases q t ss) [
      | inl above ↦ none_is_not_some (last_at q (t ∷ ss)) s above.1 some
      | inr low ↦ elim (last_cases p t ss) [
        | inl above ↦ omega (arith, low.0, above.0)
        | inr high ↦ none_is_not_some (last_at p (t ∷ ss)) (unwrap_or (last_at p ss) t) none high.1
      ]
    ]

abbrev end : WordsAt → ℕ
end s = end_of s.address (length s.words)

-- the last segment is the last of the others, or the first where none of the others is below
last_of : (q : ℕ) (s : WordsAt) (ss : List WordsAt) (t : WordsAt) → last_at q (s ∷ ss) ≡ Some t →
    (s.address ≤ q) × (((last_at q ss ≡ None) × (s ≡ t)) ⊎ (last_at q ss ≡ Some t))
last_of q s ss t e =
    elim (last_cases q s ss) [
      | inl above ↦ absurd (none_is_not_some (last_at q (s ∷ ss)) t above.1 e)
      | inr here ↦ (
        here.0,
        elim (cases_option (last_at q ss)) [
          | inl none ↦ inl (none, same_Some s t (sym (here.1 ∙ ap (λ o. Some (unwrap_or o s)) none) ∙ e))
          | inr some ↦ inr (some.1 ∙ (sym (here.1 ∙ ap (λ o. Some (unwrap_or o s)) some.1) ∙ e))
        ],
      )
    ]

-- a higher address has no earlier segment
no_earlier : (start q p : ℕ) (ss : List WordsAt) (s t : WordsAt) → AreSegments start ss → q ≤ p → last_at q ss ≡ Some s → last_at p ss ≡ Some t → end s ≤ end t
no_earlier start q p [] s t h le low high = absurd cc
no_earlier start q p (u ∷ ss) s t h le low high =
    let a = last_of q u ss s low in
    let b = last_of p u ss t high in
    elim a.1 [
      | inl first ↦ elim b.1 [
        | inl same ↦ subst (λ x. end s ≤ end x) (sym first.1 ∙ same.1) (omega arith)
        | inr later ↦
            let l = is_last (end u) p ss t h.2 later in
            subst (λ x. end x ≤ end t) first.1 (omega (arith, l.after))
      ]
      | inr beyond ↦ elim b.1 [
        | inl none ↦ absurd (stays q p ss s le beyond none.0)
        | inr later ↦ no_earlier (end u) q p ss s t h.2 le beyond later
      ]
    ]

-- the last segment at an address is the last at each lower one down to its begin
same_last : (start q p : ℕ) (ss : List WordsAt) (t : WordsAt) → AreSegments start ss → q ≤ p → t.address ≤ q → last_at p ss ≡ Some t → last_at q ss ≡ Some t
same_last start q p [] t h le at e = absurd cc
same_last start q p (u ∷ ss) t h le at e =
    let b = last_of p u ss t e in
    elim b.1 [
      | inl first ↦
          let none : last_at q ss ≡ None = elim (cases_option (last_at q ss)) [ inl none ↦ none | inr some ↦ absurd (stays q p ss some.0 le some.1 first.0) ] in
          let here : u.address ≤ q = subst (λ x. x.address ≤ q) (sym first.1) at in
          elim (last_cases q u ss) [
            | inl above ↦ absurd (omega (arith, above.0))
            | inr is ↦ is.1 ∙ ap (λ o. Some (unwrap_or o u)) none ∙ ap (λ x. Some x) first.1
          ]
      | inr later ↦
          let l = is_last (end u) p ss t h.2 later in
          let again = same_last (end u) q p ss t h.2 le at later in
          elim (last_cases q u ss) [
            | inl above ↦ absurd (omega (arith, above.0, l.after))
            | inr is ↦ is.1 ∙ ap (λ o. Some (unwrap_or o u)) again
          ]
    ]

set_by_key : (ss : List WordsAt) (boot : Boot) → IsMadeOf ss boot → (q : ℕ) → IsTrue (contains_key boot.words q) → (w : ℕ) × IsSet q ss w
set_by_key ss boot made q h =
    let w = contained (get boot.words q) h in
    (w.0, is_set q ss w.0 made.stand (sym (ap (λ m. get m q) made.words) ∙ w.1))

-- without a segment of RAM any number of pages serves
pub fits_none : (ss : List WordsAt) (boot : Boot) (pages : ℕ) → IsMadeOf ss boot → last_at before_rom ss ≡ None → FitsRam pages boot
fits_none ss boot pages made none q h lt =
    let set = set_by_key ss boot made q h in
    absurd (stays q before_rom ss set.1.segment (omega arith) set.1.last none)

pub fits_by_end : (ss : List WordsAt) (boot : Boot) (pages : ℕ) (t : WordsAt) → IsMadeOf ss boot → last_at before_rom ss ≡ Some t → end t ≤ pages * (4 * PAGE_WORDS) → FitsRam pages boot
fits_by_end ss boot pages t made last le q h lt =
    let set = set_by_key ss boot made q h in
    let s = set.1.segment in
    let e = no_earlier 0 q before_rom ss s t made.stand (omega arith) set.1.last last in
    let l = is_last 0 q ss s made.stand set.1.last in
    omega (arith, e, l.below, set.1.within)

pub end_by_fits : (ss : List WordsAt) (boot : Boot) (pages : ℕ) (t : WordsAt) → IsMadeOf ss boot → last_at before_rom ss ≡ Some t → FitsRam pages boot → end t ≤ pages * (4 * PAGE_WORDS)
end_by_fits ss boot pages t made last fits =
    let l = is_last 0 before_rom ss t made.stand last in
    let p = l.good.place in
    let n = length t.words in
    let ram : end t ≤ ram_end = elim p.inside [ inl ram ↦ ram | inr rom ↦ absurd (omega (arith, rom.0, l.below)) ] in
    let q : ℕ = t.address + 4 * (n - 1) in
    let low : q ≤ before_rom = omega (arith, ram, p.some) in
    let again = same_last 0 q before_rom ss t made.stand low (omega arith) last in
    let offset : (q - t.address) / 4 ≡ n - 1 = omega arith in
    let value : get boot.words q ≡ Some (get_or t.words (n - 1) 0) =
    ap (λ m. get m q) made.words
    ∙ get_aligned q ss t made.stand again (omega arith)
    ∙ ap (slice_get t.words) offset
    ∙ slice_get-get_or t.words (n - 1) 0 (omega (arith, p.some)) in
    let below : q < pages * (4 * PAGE_WORDS) = fits q (ap is_some value) (omega (arith, low)) in
    omega (arith, below, p.aligned, p.some)

-- without a segment that begins before the end nothing is set there
pub blank_none : (ss : List WordsAt) (boot : Boot) (start end_at : ℕ) → IsMadeOf ss boot → last_at (end_at - 1) ss ≡ None → IsBlank start end_at boot
blank_none ss boot start end_at made none q above below =
    elim (cases_option (get boot.words q)) [
      | inl unset ↦ unset
      | inr some ↦
          let set = set_by_key ss boot made q (ap is_some some.1) in
          absurd (stays q (end_at - 1) ss set.1.segment (omega (arith, below)) set.1.last none)
    ]

pub blank_by_end : (ss : List WordsAt) (boot : Boot) (start end_at : ℕ) (t : WordsAt) → IsMadeOf ss boot → last_at (end_at - 1) ss ≡ Some t → end t ≤ start → IsBlank start end_at boot
blank_by_end ss boot start end_at t made last le q above below =
    elim (cases_option (get boot.words q)) [
      | inl unset ↦ unset
      | inr some ↦
          let set = set_by_key ss boot made q (ap is_some some.1) in
          let s = set.1.segment in
          let e = no_earlier 0 q (end_at - 1) ss s t made.stand (omega (arith, below)) set.1.last last in
          let l = is_last 0 q ss s made.stand set.1.last in
          absurd (let no : ⊥ = omega (arith, le, above, e, l.below, set.1.within) in no)
    ]

-- a word that a segment sets where it reaches past an address
set_past : (ss : List WordsAt) (boot : Boot) (q p : ℕ) (t : WordsAt) → IsMadeOf ss boot → last_at p ss ≡ Some t → q ≤ p → t.address ≤ q → q % 4 ≡ 0 → q < end t
    → get boot.words q ≡ None → ⊥
set_past ss boot q p t made last low above aligned below none =
    let l = is_last 0 p ss t made.stand last in
    let again = same_last 0 q p ss t made.stand low above last in
    let n = (q - t.address) / 4 in
    let value : get boot.words q ≡ Some (get_or t.words n 0) =
    ap (λ m. get m q) made.words
    ∙ get_aligned q ss t made.stand again (omega (arith, aligned, above, l.good.place.aligned))
    ∙ slice_get-get_or t.words n 0 (omega (arith, above, below)) in
    none_is_not_some (get boot.words q) (get_or t.words n 0) none value

pub end_by_blank : (ss : List WordsAt) (boot : Boot) (start end_at : ℕ) (t : WordsAt) → IsMadeOf ss boot → last_at (end_at - 1) ss ≡ Some t → start < end_at → start % 4 ≡ 0
    → IsBlank start end_at boot → end t ≤ start
end_by_blank ss boot start end_at t made last some aligned blank =
    let l = is_last 0 (end_at - 1) ss t made.stand last in
    elim (cases_lt start (end t)) [
      | inr ends ↦ ends
      | inl reaches ↦ elim (cases_lt start t.address) [
        | inl before ↦
            absurd (set_past ss boot t.address (end_at - 1) t made last l.below (omega arith) l.good.place.aligned (omega (arith, l.good.place.some))
            (blank t.address (omega (arith, before)) (omega (arith, l.below, some))))
        | inr within ↦
            absurd (set_past ss boot start (end_at - 1) t made last (omega (arith, some)) within aligned reaches (blank start (omega arith) some))
      ]
    ]
