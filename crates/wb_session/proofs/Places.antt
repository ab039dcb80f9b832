-- The places of words, one after the other.
use Rattle.std.proofs.Common.{◌≡◌, ℕ, zero, suc, ◌+◌, ◌*◌, ◌%◌, ◌<◌, ◌≤◌, ◌==◌, Bool, true, false, if◌then◌else◌, ltb, List, [], Option, Some, None, Result, Ok, Err, refl, sym, ap, ◌∙◌, arith, add-one, inl, inr, slice_index}
use Rattle.std.specs.Option.{is_some, ok_or}
use Rattle.std.specs.Result.{is_ok}
use Rattle.std.proofs.lemmas.Bool.{cases_Bool, ltb-true, ltb-false, eq-eqb, eqb-true, true≢false}
use Rattle.r3k_word.specs.Layout.{place_of_word}
use Rattle.r3k_machine.specs.Run.{state_at}
use Rattle.refusal.specs.Given.{GivesFault}
use Rattle.refusal.specs.declared.fault.Fault.{Fault}
use Rattle.refusal.specs.declared.fault.Fault.TheVariants.{Memory, NotMemory, Unaligned}
use Rattle.input_log.specs.Limits.{max_position}
use Rattle.timeline.specs.History.{History}
use Rattle.timeline.proofs.Plain.{word_given}
use Rattle.timeline.specs.Query.{word_at}
use Rattle.wb_session.specs.Memory.{places_from, place_after, places_of}

pub places_from-zero : (pages address : ℕ) → places_from pages address 0 ≡ Some []
unfolding places_from
places_from-zero pages address = refl

pub places_from-more : (pages address count : ℕ) → places_from pages address (count + 1) ≡ place_after (places_from pages address count) (place_of_word pages (address + 4 * count))
unfolding places_from
places_from-more pages address count = rw add-one refl

-- where one word has no place, all words have none
no_places : (pages address word count : ℕ) (places : List ℕ) → places_from pages address word ≡ Some places → place_of_word pages (address + 4 * word) ≡ None → word < count → places_from pages address count ≡ None
unfolding places_from
no_places pages address word zero places some none less = absurd ((let no : word < 0 → ⊥ = λ h. omega (arith, h) in no) less)
no_places pages address word (suc count) places some none less =
    elim (cases_Bool (ltb word count)) [
      | inl before ↦ rw (no_places pages address word count places some none (ltb-true _ _ before)) refl
      | inr last ↦ (let same : count ≡ word = omega (arith, less, ltb-false word count last) in rw (same, some, none) refl)
    ]

pub aligned : (pages address count : ℕ) (r : Option (List ℕ)) → address % 4 ≡ 0 → places_from pages address count ≡ r → places_of pages address count ≡ ok_or r NotMemory
aligned pages address count r e h = rw (eq-eqb (address % 4) 0 e, h) refl

pub not_memory : (pages address word count : ℕ) (places : List ℕ) → address % 4 ≡ 0 → places_from pages address word ≡ Some places → place_of_word pages (address + 4 * word) ≡ None → word < count → places_of pages address count ≡ Err NotMemory
not_memory pages address word count places e some none less = aligned pages address count None e (no_places pages address word count places some none less)

-- places with one more, where all are there
both : (front : Option (List ℕ)) (last : Option ℕ) (all : List ℕ) → place_after front last ≡ Some all
    → ((places : List ℕ) × (front ≡ Some places)) × ((place : ℕ) × (last ≡ Some place))
both None last all h = absurd (true≢false (ap is_some (sym h)))
both (Some places) None all h = absurd (true≢false (ap is_some (sym h)))
both (Some places) (Some place) all h = ((places, refl), (place, refl))

-- where all words have places, each has
pub place_among : (pages address word count : ℕ) (all : List ℕ) → places_from pages address count ≡ Some all → word < count
    → (place : ℕ) × (place_of_word pages (address + 4 * word) ≡ Some place)
unfolding places_from
place_among pages address word zero all some less = absurd ((let no : word < 0 → ⊥ = λ h. omega (arith, h) in no) less)
place_among pages address word (suc count) all some less =
    let parts = both (places_from pages address count) (place_of_word pages (address + 4 * count)) all some in
    elim (cases_Bool (ltb word count)) [
      | inl before ↦ place_among pages address word count parts.0.0 parts.0.1 (ltb-true _ _ before)
      | inr last ↦ (let same : count ≡ word = omega (arith, less, ltb-false word count last) in
          (parts.1.0, ap (λ (w : ℕ). place_of_word pages (address + 4 * w)) (sym same) ∙ parts.1.1))
    ]

-- words that can be shown have places
pub all_places : (pages address count : ℕ) (all : List ℕ) → address % 4 ≡ 0 → places_of pages address count ≡ Ok all → places_from pages address count ≡ Some all
all_places pages address count all even h = some_of (places_from pages address count) (sym (aligned pages address count (places_from pages address count) even refl) ∙ h)
  where
    list_or : Result (List ℕ) Fault → List ℕ
    list_or (Ok places) = places
    list_or (Err fault) = []

    some_of : (o : Option (List ℕ)) → ok_or o NotMemory ≡ Ok all → o ≡ Some all
    some_of None h = absurd (true≢false (ap (λ (r : Result (List ℕ) Fault). is_ok r) (sym h)))
    some_of (Some places) h = ap (λ (r : Result (List ℕ) Fault). Some (list_or r)) h

-- such words begin at a multiple of 4
pub starts_even : (pages address count : ℕ) (all : List ℕ) → places_of pages address count ≡ Ok all → address % 4 ≡ 0
starts_even pages address count all h =
    elim (cases_Bool (address % 4 == 0)) [
      | inl even ↦ eqb-true (address % 4) 0 even
      | inr odd ↦ absurd (not_odd (address % 4 == 0) (ok_or (places_from pages address count) NotMemory) odd h)
    ]
  where
    not_odd : (even : Bool) (r : Result (List ℕ) Fault) → even ≡ false → (if even then r else Err Unaligned) ≡ Ok all → ⊥
    not_odd true r odd h = true≢false odd
    not_odd false r odd h = true≢false (ap (λ (r : Result (List ℕ) Fault). is_ok r) (sym h))

value_of : Result ℕ Fault → ℕ
value_of (Ok value) = value
value_of (Err fault) = 0

-- what is given of such a word
pub value_is : (pages : ℕ) (h : History) (position address place value : ℕ) → position ≤ max_position → address % 4 ≡ 0
    → place_of_word pages address ≡ Some place → word_at pages h position address ≡ Ok value
    → value ≡ slice_index (state_at pages h.image h.log position).words place
unfolding value_of
value_is pages h position address place value near even some given =
    ap value_of (sym given ∙ word_given pages h position address place near even some)

pub only_memory : (pages : ℕ) (h : History) (position address place : ℕ) (fault : Fault) → position ≤ max_position → address % 4 ≡ 0
    → place_of_word pages address ≡ Some place → GivesFault (word_at pages h position address) fault → fault ≡ Memory
only_memory pages h position address place fault near even some (inl same) =
    absurd (true≢false (ap (λ (r : Result ℕ Fault). is_ok r) (sym (word_given pages h position address place near even some) ∙ same)))
only_memory pages h position address place fault near even some (inr lacks) = lacks.0
