-- An image that fits does so after a patch.
use Rattle.std.proofs.Common.{◌≡◌, ◌≢◌, ℕ, ◌+◌, ◌-◌, ◌*◌, ◌/◌, ◌%◌, ◌<◌, ◌≤◌, ◌==◌, Bool, if◌then◌else◌, cond, ◌⊎◌, inl, inr, List, length, map, slice_index, slice_set, unwrap_or, Option, Some, None, Result, Ok, Err, IsSome, true, false, refl, sym, ap, subst, ◌∙◌, arith, zero-add, length-set}
use Rattle.std.specs.Prelude.{nat_lt, nat_le, ◌&&◌}
use Rattle.std.specs.Ordering.{nat_cmp}
use Rattle.std.specs.Cmp.{unsigned_tied, nat_cmp_total}
use Rattle.std.specs.FinMap as map_of
use Rattle.std.specs.FinMap.{get-insert}
use Rattle.std.specs.List.{range_with_len}
use Rattle.std.proofs.lemmas.Bool.{and_parts, cases_Bool, cases_eq, cases_lt, eq-eqb, eqb-true, leb-true, lt-ltb, ltb-true, ne_eqb}
use Rattle.std.proofs.lemmas.List.{ext_get_or, get_or-set_other, get_or-set_same}
use Rattle.std.proofs.lemmas.List.FromFn.{get_or-map-range_with_len, length-map-range_with_len}
use Rattle.std.specs.Option.{is_some}
use Rattle.std.proofs.lemmas.Bool.{true≢false}
use Rattle.r3k_word.specs.Layout.{address_of_place, place_of_word, word_count_of}
use Rattle.r3k_word.specs.declared.layout.TheConstants.{MAX_RAM_PAGES, PAGE_BYTES, PAGE_WORDS, ROM_BYTES, ROM_START}
use Rattle.r3k_machine.specs.Reset.{reset, reset_core, reset_word, reset_words}
use Rattle.r3k_machine.specs.State.{State}
use Rattle.r3k_image.specs.Boot.{Boot, FitsRam}
use Rattle.r3k_image.specs.Patch.{patched, patched_at, patching}
use Rattle.r3k_image.proofs.Patched.{fits_patched, patch_taken_in}
use Rattle.refusal.specs.declared.fault.Fault.{Fault}
use Rattle.refusal.specs.declared.fault.Fault.TheVariants.{Unaligned}
use Rattle.present_run.proofs.Spans.{some_is}

abbrev image_or : Boot → Result Boot Fault → Boot
image_or other (Ok image) = image
image_or other (Err fault) = other

pub fits_after : (pages address word place : ℕ) (old new : Boot) → place_of_word pages address ≡ Some place → patched address word old ≡ new → FitsRam pages old → FitsRam pages new
fits_after pages address word place old new is same fits =
    subst (λ (boot : Boot). FitsRam pages boot) same (fits_patched pages address word old (subst (λ (o : Option ℕ). IsSome o) (sym is) refl) fits)

-- a word that has a place is patched
pub patching_there : (pages address word place : ℕ) (old new : Boot) → address % 4 ≡ 0 → place_of_word pages address ≡ Some place → patched address word old ≡ new
    → patching pages address word old ≡ Ok new
patching_there pages address word place old new even is same =
    ap (λ (even : Bool). if even then patched_at (place_of_word pages address) (patched address word old) else Err Unaligned) (eq-eqb (address % 4) 0 even)
    ∙ (ap (λ (o : Option ℕ). patched_at o (patched address word old)) is ∙ ap (λ (boot : Boot). let r : Result Boot Fault = Ok boot in r) same)

-- ---- reset of a patched image

same_key : (m : map_of.FinMap nat_cmp ℕ) (k v q : ℕ) → q ≡ k → map_of.get (map_of.insert m k v) q ≡ Some v
same_key m k v q e = get-insert nat_cmp_total m k v q ∙ ap (λ b. cond b (Some v) (map_of.get m q)) (unsigned_tied q k ∙ eq-eqb q k e)

other_key : (m : map_of.FinMap nat_cmp ℕ) (k v q : ℕ) → q ≢ k → map_of.get (map_of.insert m k v) q ≡ map_of.get m q
other_key m k v q n = get-insert nat_cmp_total m k v q ∙ ap (λ b. cond b (Some v) (map_of.get m q)) (unsigned_tied q k ∙ ne_eqb q k n)

-- the ways in which a word has a place
parts : (even low rom : Bool) (a b place : ℕ) → (if even then (if low then Some a else (if rom then Some b else None)) else None) ≡ Some place
    → (even ≡ true) × (((low ≡ true) × (a ≡ place)) ⊎ ((low ≡ false) × (rom ≡ true) × (b ≡ place)))
parts true true rom a b place is = (refl, inl (refl, some_is a place is))
parts true false true a b place is = (refl, inr (refl, refl, some_is b place is))
parts true false false a b place is = absurd (true≢false (ap (λ (o : Option ℕ). is_some o) (sym is)))
parts false low rom a b place is = absurd (true≢false (ap (λ (o : Option ℕ). is_some o) (sym is)))

low_address : (pages place : ℕ) → place < pages * PAGE_WORDS → address_of_place pages place ≡ 4 * place
low_address pages place low = rw (lt-ltb place (pages * PAGE_WORDS) low) refl

high_address : (pages place : ℕ) → pages * PAGE_WORDS ≤ place → address_of_place pages place ≡ ROM_START + 4 * (place - pages * PAGE_WORDS)
high_address pages place high =
    elim (cases_Bool (nat_lt place (pages * PAGE_WORDS))) [
      | inl low ↦ absurd (let e : ⊥ = omega (arith, ltb-true place (pages * PAGE_WORDS) low, high) in e)
      | inr high ↦ rw high refl
    ]

-- the address of a place
pub its_address : (pages address place : ℕ) → place_of_word pages address ≡ Some place → (place < word_count_of pages) × (address_of_place pages place ≡ address)
its_address pages address place is =
    let how = parts (address % 4 == 0) (nat_lt address (pages * PAGE_BYTES)) (nat_le ROM_START address && nat_lt address (ROM_START + ROM_BYTES))
    (address / 4) (pages * PAGE_WORDS + (address - ROM_START) / 4) place is in
    where_it_is (eqb-true (address % 4) 0 how.0) how.1
  where
    where_it_is : address % 4 ≡ 0
        → ((nat_lt address (pages * PAGE_BYTES) ≡ true) × (address / 4 ≡ place))
        ⊎ ((nat_lt address (pages * PAGE_BYTES) ≡ false) × ((nat_le ROM_START address && nat_lt address (ROM_START + ROM_BYTES)) ≡ true) × (pages * PAGE_WORDS + (address - ROM_START) / 4 ≡ place))
        → (place < word_count_of pages) × (address_of_place pages place ≡ address)
    where_it_is even (inl (low, here)) =
        let below = ltb-true address (pages * PAGE_BYTES) low in
        (omega (arith, below, here), low_address pages place (omega (arith, below, here)) ∙ (let e : 4 * place ≡ address = omega (arith, even, here) in e))
    where_it_is even (inr rom) =
        let both = and_parts (nat_le ROM_START address) (nat_lt address (ROM_START + ROM_BYTES)) rom.1 in
        let above = leb-true ROM_START address both.0 in
        let below = ltb-true address (ROM_START + ROM_BYTES) both.1 in
        let here = rom.2 in (
          omega (arith, above, below, here),
          high_address pages place (omega (arith, here))
              ∙ (let e : ROM_START + 4 * (place - pages * PAGE_WORDS) ≡ address = omega (arith, even, here, above) in e),
        )

apart : (pages a b : ℕ) → pages ≤ MAX_RAM_PAGES → ¬ (a ≡ b) → ¬ (address_of_place pages a ≡ address_of_place pages b)
apart pages a b few other same =
    elim (cases_lt a (pages * PAGE_WORDS)) [
      | inl low ↦
          elim (cases_lt b (pages * PAGE_WORDS)) [
            | inl low_too ↦ other (let e : a ≡ b = omega (arith, sym (low_address pages a low) ∙ (same ∙ low_address pages b low_too)) in e)
            | inr high ↦ (let e : ⊥ = omega (arith, sym (low_address pages a low) ∙ (same ∙ high_address pages b high), low, few) in e)
          ]
      | inr high ↦
          elim (cases_lt b (pages * PAGE_WORDS)) [
            | inl low ↦ (let e : ⊥ = omega (arith, sym (high_address pages a high) ∙ (same ∙ low_address pages b low), low, few) in e)
            | inr high_too ↦ other (let e : a ≡ b = omega (arith, sym (high_address pages a high) ∙ (same ∙ high_address pages b high_too), high, high_too) in e)
          ]
    ]

pub reset_patched : (pages address word place : ℕ) (image : Boot) → pages ≤ MAX_RAM_PAGES → place_of_word pages address ≡ Some place
    → reset pages (patched address word image) ≡ record { core = reset_core image; words = slice_set (reset_words pages image) place word }
reset_patched pages address word place image few is =
    ap (λ (words : List ℕ). let s : State = record { core = reset_core image; words = words } in s)
    (ext_get_or 0 (reset_words pages (patched address word image)) (slice_set old place word)
    (long (reset_word pages (patched address word image)) ∙ sym (length-set old place word ∙ long (reset_word pages image)))
    (λ at within.
    let inside = subst (λ (n : ℕ). at < n) (long (reset_word pages (patched address word image))) within in
    let of = its_address pages address place is in
    elim (cases_eq at place) [
      | inl here ↦
          word_at (reset_word pages (patched address word image)) at inside
          ∙ (ap (λ (o : Option ℕ). unwrap_or o 0) (same_key image.words address word (address_of_place pages at) (ap (address_of_place pages) here ∙ of.1))
          ∙ (sym (get_or-set_same old place word 0 (subst (λ (n : ℕ). place < n) (sym (long (reset_word pages image))) of.0))
          ∙ ap (λ (n : ℕ). slice_index (slice_set old place word) n) (sym here)))
      | inr other ↦
          word_at (reset_word pages (patched address word image)) at inside
          ∙ (ap (λ (o : Option ℕ). unwrap_or o 0)
          (other_key image.words address word (address_of_place pages at) (λ same. apart pages at place few other (same ∙ sym of.1)))
          ∙ (sym (word_at (reset_word pages image) at inside) ∙ sym (get_or-set_other old place at word 0 other)))
    ]))
  where
    old : List ℕ
    old = reset_words pages image

    long : (f : ℕ → ℕ) → length (map f (range_with_len 0 (word_count_of pages))) ≡ word_count_of pages
    long f = length-map-range_with_len f 0 (word_count_of pages)

    word_at : (f : ℕ → ℕ) (at : ℕ) → at < word_count_of pages → slice_index (map f (range_with_len 0 (word_count_of pages))) at ≡ f at
    word_at f at inside = get_or-map-range_with_len f 0 (word_count_of pages) at at 0 inside (zero-add at)

-- a word of the machine is patched
pub taken_by_most : (pages address word place : ℕ) (old new : Boot) → pages ≤ MAX_RAM_PAGES → place_of_word pages address ≡ Some place
    → patching MAX_RAM_PAGES address word old ≡ Ok new → patched address word old ≡ new
taken_by_most pages address word place old new few is done =
    ap (image_or old) (sym (patch_taken_in pages address word old few (subst (λ (o : Option ℕ). IsSome o) (sym is) refl)) ∙ done)
