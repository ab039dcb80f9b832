-- What the words that segments set answer at an address.
use Rattle.std.proofs.Common.{◌≡◌, ℕ, suc, ◌+◌, ◌-◌, ◌*◌, ◌/◌, ◌%◌, ◌<◌, ◌≤◌, ◌≢◌, Bool, true, false, cond, eqb, inl, inr, List, [], ◌∷◌, ◌++◌, length, Option, Some, None, unwrap_or, refl, sym, ap, ◌∙◌, arith}
use Rattle.std.specs.Prelude.{flat_map, option_and_then, ◌==◌, if◌then◌else◌}
use Rattle.std.specs.List.{slice_get}
use Rattle.std.specs.Ordering.{nat_cmp}
use Rattle.std.specs.Cmp.{unsigned_tied, nat_cmp_total}
use Rattle.std.specs.FinMap.{get, find, get-from_entries}
use Rattle.std.proofs.lemmas.Bool.{eq-eqb, ne_eqb, eqb-true, cases_lt, cases_eq, cases_Bool}
use Rattle.std.proofs.lemmas.Option.{slice_get_within}
use Rattle.r3k_image.specs.Segments.{WordsAt, end_of, entries_from, set_words, AreSegments, last_at}
use Rattle.r3k_image.proofs.Placing.{stand, last_cases, is_last, cases_option}

-- the word of a segment at an address that is not before it
abbrev pub word_in : ℕ → WordsAt → Option ℕ
word_in q s = if (q - s.address) % 4 == 0 then slice_get s.words ((q - s.address) / 4) else None

-- all set words with their addresses
abbrev entries : List WordsAt → List (ℕ × ℕ)
entries ss = flat_map (λ s. entries_from s.address s.words) ss

pub find_here : (q a w : ℕ) (es : List (ℕ × ℕ)) → q ≡ a → find nat_cmp q ((a, w) ∷ es) ≡ Some w
find_here q a w es e = ap (λ b. cond b (Some w) (find nat_cmp q es)) (unsigned_tied q a ∙ eq-eqb q a e)

pub find_other : (q a w : ℕ) (es : List (ℕ × ℕ)) → q ≢ a → find nat_cmp q ((a, w) ∷ es) ≡ find nat_cmp q es
find_other q a w es e = ap (λ b. cond b (Some w) (find nat_cmp q es)) (unsigned_tied q a ∙ ne_eqb q a e)

-- what is not in the first list is looked up in the second
find_after : (q : ℕ) (xs ys : List (ℕ × ℕ)) → find nat_cmp q xs ≡ None → find nat_cmp q (xs ++ ys) ≡ find nat_cmp q ys
find_after q [] ys none = refl
find_after q (x ∷ xs) ys none =
    elim (cases_eq q x.0) [
      | inl e ↦ absurd (let f : ◌≡◌ {A = Option ℕ} (Some x.1) None = sym (find_here q x.0 x.1 xs e) ∙ none in cc)
      | inr n ↦ find_other q x.0 x.1 (xs ++ ys) n ∙ find_after q xs ys (sym (find_other q x.0 x.1 xs n) ∙ none)
    ]

-- what is not in the second list is looked up in the first
find_front : (q : ℕ) (xs ys : List (ℕ × ℕ)) → find nat_cmp q ys ≡ None → find nat_cmp q (xs ++ ys) ≡ find nat_cmp q xs
find_front q [] ys none = none
find_front q (x ∷ xs) ys none =
    elim (cases_eq q x.0) [
      | inl e ↦ find_here q x.0 x.1 (xs ++ ys) e ∙ sym (find_here q x.0 x.1 xs e)
      | inr n ↦ find_other q x.0 x.1 (xs ++ ys) n ∙ find_front q xs ys none ∙ sym (find_other q x.0 x.1 xs n)
    ]

-- nothing is found before a segment, nor past its end
before : (q a : ℕ) (ws : List ℕ) → q < a → find nat_cmp q (entries_from a ws) ≡ None
before q a [] lt = refl
before q a (w ∷ ws) lt = find_other q a w (entries_from (a + 4) ws) (omega arith) ∙ before q (a + 4) ws (omega arith)

past : (q a : ℕ) (ws : List ℕ) → a + 4 * length ws ≤ q → find nat_cmp q (entries_from a ws) ≡ None
past q a [] le = refl
past q a (w ∷ ws) le = find_other q a w (entries_from (a + 4) ws) (omega arith) ∙ past q (a + 4) ws (omega arith)

both_none : (b : Bool) → None ≡ cond b (slice_get {X = ℕ} [] 0) None
both_none true = refl
both_none false = refl

inside : (q a : ℕ) (ws : List ℕ) → a ≤ q → find nat_cmp q (entries_from a ws) ≡ word_in q (record { address = a; words = ws })
inside q a [] le = both_none (eqb ((q - a) % 4) 0)
inside q a (w ∷ ws) le =
    elim (cases_eq q a) [
      | inl e ↦
          let d : q - a ≡ 0 = omega arith in
          find_here q a w (entries_from (a + 4) ws) e ∙ sym (ap (λ n. cond (eqb (n % 4) 0) (slice_get (w ∷ ws) (n / 4)) None) d)
      | inr n ↦ find_other q a w (entries_from (a + 4) ws) n ∙ elim (cases_lt q (a + 4)) [
        | inl lt ↦
            let fails : eqb ((q - a) % 4) 0 ≡ false = ne_eqb ((q - a) % 4) 0 (omega arith) in
            before q (a + 4) ws lt ∙ sym (ap (λ b. cond b (slice_get (w ∷ ws) ((q - a) / 4)) None) fails)
        | inr ge ↦
            let rest : (q - a) % 4 ≡ (q - (a + 4)) % 4 = omega arith in
            let place : (q - a) / 4 ≡ suc ((q - (a + 4)) / 4) = omega arith in
            inside q (a + 4) ws ge ∙ sym (λ i. cond (eqb (rest i) 0) (slice_get (w ∷ ws) (place i)) None)
      ]
    ]

-- nothing is found before the start of good segments
none_before : (start q : ℕ) (ss : List WordsAt) → AreSegments start ss → q < start → find nat_cmp q (entries ss) ≡ None
none_before start q [] h lt = refl
none_before start q (s ∷ ss) h lt =
    let p = stand start s.address (length s.words) h.0 in
    find_after q (entries_from s.address s.words) (entries ss) (before q s.address s.words (omega (arith, p.after)))
    ∙ none_before (end_of s.address (length s.words)) q ss h.2 (omega (arith, p.after))

found_by_last : (start q : ℕ) (ss : List WordsAt) → AreSegments start ss → find nat_cmp q (entries ss) ≡ option_and_then (word_in q) (last_at q ss)
found_by_last start q [] h = refl
found_by_last start q (s ∷ ss) h =
    let p = stand start s.address (length s.words) h.0 in
    let beyond = found_by_last (end_of s.address (length s.words)) q ss h.2 in
    elim (last_cases q s ss) [
      | inl above ↦
          find_after q (entries_from s.address s.words) (entries ss) (before q s.address s.words above.0)
          ∙ none_before (end_of s.address (length s.words)) q ss h.2 (omega (arith, above.0))
          ∙ sym (ap (option_and_then (word_in q)) above.1)
      | inr here ↦ elim (cases_option (last_at q ss)) [
        | inl none ↦
            find_front q (entries_from s.address s.words) (entries ss) (beyond ∙ ap (option_and_then (word_in q)) none)
            ∙ inside q s.address s.words here.0
            ∙ sym (ap (option_and_then (word_in q)) (here.1 ∙ ap (λ o. Some (unwrap_or o s)) none))
        | inr some ↦
            let l = is_last (end_of s.address (length s.words)) q ss some.0 h.2 some.1 in
            find_after q (entries_from s.address s.words) (entries ss) (past q s.address s.words (omega (arith, l.after, l.below)))
            ∙ beyond
            ∙ ap (option_and_then (word_in q)) some.1
            ∙ sym (ap (option_and_then (word_in q)) (here.1 ∙ ap (λ o. Some (unwrap_or o s)) some.1))
      ]
    ]

-- the word at an address is that of the last segment that begins at or below it
pub get-set_words : (q : ℕ) (ss : List WordsAt) → AreSegments 0 ss → get (set_words ss) q ≡ option_and_then (word_in q) (last_at q ss)
get-set_words q ss h = get-from_entries nat_cmp_total (entries ss) q ∙ found_by_last 0 q ss h

-- a set word: its segment and its place there
pub record IsSet (q : ℕ) (ss : List WordsAt) (w : ℕ) : Type 0 where
  pub segment : WordsAt
  pub last : last_at q ss ≡ Some segment
  pub aligned : (q - segment.address) % 4 ≡ 0
  pub within : (q - segment.address) / 4 < length segment.words
  pub word : slice_get segment.words ((q - segment.address) / 4) ≡ Some w

is_set_in : (q : ℕ) (ss : List WordsAt) (w : ℕ) (s : WordsAt) → last_at q ss ≡ Some s → word_in q s ≡ Some w → IsSet q ss w
is_set_in q ss w s last e =
    elim (cases_Bool (eqb ((q - s.address) % 4) 0)) [
      | inl holds ↦
          let word : slice_get s.words ((q - s.address) / 4) ≡ Some w = sym (ap (λ b. cond b (slice_get s.words ((q - s.address) / 4)) None) holds) ∙ e in
          record { segment = s; last = last; aligned = eqb-true _ _ holds; within = slice_get_within s.words _ w word; word = word }
      | inr fails ↦ absurd (let f : ◌≡◌ {A = Option ℕ} None (Some w) = sym (ap (λ b. cond b (slice_get s.words ((q - s.address) / 4)) None) fails) ∙ e in cc)
    ]

pub is_set : (q : ℕ) (ss : List WordsAt) (w : ℕ) → AreSegments 0 ss → get (set_words ss) q ≡ Some w → IsSet q ss w
is_set q ss w h e =
    elim (cases_option (last_at q ss)) [
      | inl none ↦ absurd (let f : ◌≡◌ {A = Option ℕ} None (Some w) = sym (get-set_words q ss h ∙ ap (option_and_then (word_in q)) none) ∙ e in cc)
      | inr some ↦ is_set_in q ss w some.0 some.1 (sym (get-set_words q ss h ∙ ap (option_and_then (word_in q)) some.1) ∙ e)
    ]

pub get_none : (q : ℕ) (ss : List WordsAt) → AreSegments 0 ss → last_at q ss ≡ None → get (set_words ss) q ≡ None
get_none q ss h none = get-set_words q ss h ∙ ap (option_and_then (word_in q)) none

pub get_misaligned : (q : ℕ) (ss : List WordsAt) (s : WordsAt) → AreSegments 0 ss → last_at q ss ≡ Some s → (q - s.address) % 4 ≢ 0 → get (set_words ss) q ≡ None
get_misaligned q ss s h last odd =
    get-set_words q ss h ∙ ap (option_and_then (word_in q)) last
    ∙ ap (λ b. cond b (slice_get s.words ((q - s.address) / 4)) None) (ne_eqb ((q - s.address) % 4) 0 odd)

pub get_aligned : (q : ℕ) (ss : List WordsAt) (s : WordsAt) → AreSegments 0 ss → last_at q ss ≡ Some s → (q - s.address) % 4 ≡ 0 → get (set_words ss) q ≡ slice_get s.words ((q - s.address) / 4)
get_aligned q ss s h last even =
    get-set_words q ss h ∙ ap (option_and_then (word_in q)) last
    ∙ ap (λ b. cond b (slice_get s.words ((q - s.address) / 4)) None) (eq-eqb ((q - s.address) % 4) 0 even)
