-- What is kept of the words of open pages stays known of them.
use Rattle.std.proofs.Common.{◌≡◌, ℕ, ◌+◌, ◌*◌, ◌/◌, ◌%◌, ◌<◌, ◌≤◌, IsFalse, IsTrue, List, length, nat_eq, slice_index, slice_index_or, slice_set, sym, ap, subst, ◌∙◌, arith, inl, inr}
use Rattle.std.proofs.lemmas.Bool.{cases_Bool, eq-eqb, eqb-true, true≢false}
use Rattle.std.proofs.lemmas.Bool.Decides.{nat_tests}
use Rattle.std.proofs.lemmas.List.{get_or-set_same, get_or-set_other}
use Rattle.std.proofs.Math.ListN.{length-set}
use Rattle.r3k_decode.specs.Operation.{Operation}
use Rattle.r3k_word.specs.Layout.{word_count_of}
use Rattle.r3k_word.specs.declared.layout.TheConstants.{MAX_RAM_PAGES, PAGE_WORDS, ROM_PAGES}
use Rattle.r3k_machine.specs.Known.{IsDecoded, IsKnown, IsStop}
use Rattle.r3k_live.specs.Slots.{AreKnown, is_open, slot_of}
use Rattle.r3k_live.specs.declared.flat.TheConstants.{SLOTS, SLOT_WORDS, UNUSED}

pub slot_within : (pages page : ℕ) → page < pages + ROM_PAGES → slot_of pages page < SLOTS
slot_within pages page within = grind (arith, nat_tests)

pub a_slot : (slot index : ℕ) → index < PAGE_WORDS → (slot * PAGE_WORDS + index) / PAGE_WORDS ≡ slot
a_slot slot index within = omega arith

an_index : (slot index : ℕ) → index < PAGE_WORDS → (slot * PAGE_WORDS + index) % PAGE_WORDS ≡ index
an_index slot index within = omega arith

a_kept_slot : (slot index : ℕ) → index < SLOT_WORDS → (slot * SLOT_WORDS + index) / SLOT_WORDS ≡ slot
a_kept_slot slot index within = omega arith

-- pages that are open in one slot are one page
one_page : (pages : ℕ) (opened : List ℕ) (a b : ℕ) → slot_of pages a ≡ slot_of pages b → IsTrue (is_open pages opened a) → IsTrue (is_open pages opened b) → a ≡ b
one_page pages opened a b same first second =
    let one = eqb-true (slice_index opened (slot_of pages a)) (a + 1) first in
    let other = eqb-true (slice_index opened (slot_of pages b)) (b + 1) second in
    let both : a + 1 ≡ b + 1 = sym one ∙ (ap (slice_index opened) same ∙ other) in
    omega (arith, both)

-- where no page is open
pub all_closed : (pages : ℕ) (words : List ℕ) (known : List Operation) (opened : List ℕ) → length known ≡ SLOTS * SLOT_WORDS + 1 → length opened ≡ SLOTS
    → ((slot : ℕ) (d : Operation) → slot < SLOTS → IsStop (slice_index_or known (slot * SLOT_WORDS + PAGE_WORDS) d))
    → ((slot : ℕ) → slot < length opened → slice_index opened slot ≡ 0) → AreKnown pages words known opened
all_closed pages words known opened room slots past none = record {
  room = room;
  slots = slots;
  past = past;
  each = λ page index d within inside is.
      let there = eqb-true (slice_index opened (slot_of pages page)) (page + 1) is in
      let empty = none (slot_of pages page) (rw slots (slot_within pages page within)) in
      absurd (let e : ⊥ = omega (arith, there, empty) in e);
  unused = λ slot index d within inside is.
      let empty = none slot (rw slots within) in
      absurd (let e : ⊥ = omega (arith, is, empty) in e);
}

-- where no page was open yet
pub all_unused : (pages : ℕ) (words : List ℕ) (known : List Operation) (opened : List ℕ) (stop : Operation) → pages ≤ MAX_RAM_PAGES → IsStop stop
    → length known ≡ SLOTS * SLOT_WORDS + 1 → length opened ≡ SLOTS → ((slot : ℕ) → slot < SLOTS → slice_index opened slot ≡ UNUSED)
    → ((i : ℕ) (d : Operation) → i < SLOTS * SLOT_WORDS → slice_index_or known i d ≡ stop) → AreKnown pages words known opened
all_unused pages words known opened stop few stops room slots unused nothing = record {
  room = room;
  slots = slots;
  each = λ page index d within inside is.
      let there = eqb-true (slice_index opened (slot_of pages page)) (page + 1) is in
      let none = unused (slot_of pages page) (slot_within pages page within) in
      absurd (let e : ⊥ = omega (arith, there, none, within, few) in e);
  past = λ slot d within. subst IsStop (sym (nothing (slot * SLOT_WORDS + PAGE_WORDS) d (omega (arith, within)))) stops;
  unused = λ slot index d within inside is. subst IsStop (sym (nothing (slot * SLOT_WORDS + index) d (omega (arith, within, inside)))) stops;
}

-- after a word was stored into
pub word_stored : (pages : ℕ) (words : List ℕ) (known : List Operation) (opened : List ℕ) (place value : ℕ) (stop : Operation)
    → AreKnown pages words known opened → IsStop stop → place < word_count_of pages
    → AreKnown pages (slice_set words place value) (slice_set known (slot_of pages (place / PAGE_WORDS) * SLOT_WORDS + place % PAGE_WORDS) stop) opened
word_stored pages words known opened place value stop are stops within =
    let at = slot_of pages (place / PAGE_WORDS) * SLOT_WORDS + place % PAGE_WORDS in
    let slot_at = slot_within pages (place / PAGE_WORDS) (omega arith) in record {
      room = length-set known at stop ∙ are.room;
      slots = are.slots;
      each = λ page index d page_within inside is.
          let here = slot_of pages page * SLOT_WORDS + index in
          elim (cases_Bool (nat_eq at here)) [
            | inl same ↦ λ other.
                absurd (other (subst (λ (n : ℕ). IsStop (slice_index_or (slice_set known at stop) n d)) (eqb-true at here same)
                (subst IsStop (sym (get_or-set_same known at stop d (rw are.room (omega (arith, slot_at))))) stops)))
            | inr apart ↦
                let apart_at : ¬ (here ≡ at) = λ same. true≢false (sym (eq-eqb at here (sym same)) ∙ apart) in
                let apart_place : ¬ (page * PAGE_WORDS + index ≡ place) = λ same.
                apart_at (ap (λ (n : ℕ). slot_of pages n * SLOT_WORDS + index) (sym (a_slot page index inside) ∙ ap (λ (n : ℕ). n / PAGE_WORDS) same)
                ∙ ap (λ (n : ℕ). slot_of pages (place / PAGE_WORDS) * SLOT_WORDS + n) (sym (an_index page index inside) ∙ ap (λ (n : ℕ). n % PAGE_WORDS) same)) in
                subst (λ (operation : Operation). IsKnown (slice_index (slice_set words place value) (page * PAGE_WORDS + index)) operation) (sym (get_or-set_other known at here stop d apart_at))
                (subst (λ (word : ℕ). IsKnown word (slice_index_or known here d)) (sym (get_or-set_other words place (page * PAGE_WORDS + index) value 0 apart_place))
                (are.each page index d page_within inside is))
          ];
      past = λ slot d within. subst IsStop (sym (get_or-set_other known at (slot * SLOT_WORDS + PAGE_WORDS) stop d (λ same. omega (arith, same)))) (are.past slot d within);
      unused = λ slot index d within inside is.
          let here = slot * SLOT_WORDS + index in
          elim (cases_Bool (nat_eq at here)) [
            | inl same ↦
                subst (λ (n : ℕ). IsStop (slice_index_or (slice_set known at stop) n d)) (eqb-true at here same)
                (subst IsStop (sym (get_or-set_same known at stop d (rw are.room (omega (arith, slot_at))))) stops)
            | inr apart ↦
                subst IsStop (sym (get_or-set_other known at here stop d (λ same. true≢false (sym (eq-eqb at here (sym same)) ∙ apart))))
                (are.unused slot index d within inside is)
          ];
    }

-- after a word of a page that is not open was stored into
pub word_stored_apart : (pages : ℕ) (words : List ℕ) (known : List Operation) (opened : List ℕ) (place value : ℕ)
    → AreKnown pages words known opened → IsFalse (is_open pages opened (place / PAGE_WORDS)) → AreKnown pages (slice_set words place value) known opened
word_stored_apart pages words known opened place value are closed = record {
  room = are.room;
  slots = are.slots;
  each = λ page index d page_within inside is.
      let apart : ¬ (page * PAGE_WORDS + index ≡ place) = λ same.
      true≢false (sym (subst (λ (n : ℕ). IsTrue (is_open pages opened n)) (sym (a_slot page index inside) ∙ ap (λ (n : ℕ). n / PAGE_WORDS) same) is) ∙ closed) in
      subst (λ (word : ℕ). IsKnown word (slice_index_or known (slot_of pages page * SLOT_WORDS + index) d)) (sym (get_or-set_other words place (page * PAGE_WORDS + index) value 0 apart))
      (are.each page index d page_within inside is);
  past = are.past;
  unused = are.unused;
}

-- after a word of an open page was decoded
pub word_learned : (pages : ℕ) (words : List ℕ) (known : List Operation) (opened : List ℕ) (page index : ℕ) (operation : Operation)
    → AreKnown pages words known opened → pages ≤ MAX_RAM_PAGES → page < pages + ROM_PAGES → index < PAGE_WORDS → IsTrue (is_open pages opened page)
    → IsDecoded (slice_index words (page * PAGE_WORDS + index)) operation
    → AreKnown pages words (slice_set known (slot_of pages page * SLOT_WORDS + index) operation) opened
word_learned pages words known opened page index operation are few page_within inside is decoded =
    let at = slot_of pages page * SLOT_WORDS + index in
    let slot_at = slot_within pages page page_within in record {
      room = length-set known at operation ∙ are.room;
      slots = are.slots;
      each = λ other i d other_within other_inside other_is.
          let here = slot_of pages other * SLOT_WORDS + i in
          elim (cases_Bool (nat_eq at here)) [
            | inl same ↦
                let same_at : at ≡ here = eqb-true at here same in
                let same_slot : slot_of pages page ≡ slot_of pages other = omega (arith, same_at, inside, other_inside) in
                let same_index : index ≡ i = omega (arith, same_at, inside, other_inside) in
                let same_page = one_page pages opened page other same_slot is other_is in
                subst (λ (n : ℕ). IsKnown (slice_index words n) (slice_index_or (slice_set known at operation) here d)) (let e : page * PAGE_WORDS + index ≡ other * PAGE_WORDS + i = omega (arith, same_page, same_index) in e)
                (subst (λ (n : ℕ). IsKnown (slice_index words (page * PAGE_WORDS + index)) (slice_index_or (slice_set known at operation) n d)) same_at
                (subst (λ (o : Operation). IsKnown (slice_index words (page * PAGE_WORDS + index)) o) (sym (get_or-set_same known at operation d (rw are.room (omega (arith, slot_at, inside)))))
                (λ _. decoded)))
            | inr apart ↦
                subst (λ (o : Operation). IsKnown (slice_index words (other * PAGE_WORDS + i)) o)
                (sym (get_or-set_other known at here operation d (λ same. true≢false (sym (eq-eqb at here (sym same)) ∙ apart))))
                (are.each other i d other_within other_inside other_is)
          ];
      past = λ slot d within. subst IsStop (sym (get_or-set_other known at (slot * SLOT_WORDS + PAGE_WORDS) operation d (λ same. omega (arith, same, inside)))) (are.past slot d within);
      unused = λ slot i d within inside_i none.
          let here = slot * SLOT_WORDS + i in
          elim (cases_Bool (nat_eq at here)) [
            | inl same ↦
                let same_at : at ≡ here = eqb-true at here same in
                let same_slot : slot_of pages page ≡ slot = omega (arith, same_at, inside, inside_i) in
                let there : slice_index opened slot ≡ page + 1 = ap (slice_index opened) (sym same_slot) ∙ eqb-true (slice_index opened (slot_of pages page)) (page + 1) is in
                absurd (let e : ⊥ = omega (arith, there, none, page_within, few) in e)
            | inr apart ↦
                subst IsStop (sym (get_or-set_other known at here operation d (λ same. true≢false (sym (eq-eqb at here (sym same)) ∙ apart))))
                (are.unused slot i d within inside_i none)
          ];
    }

-- after a page took a slot of whose words nothing is known
pub slot_taken : (pages : ℕ) (words : List ℕ) (known cleared : List Operation) (opened : List ℕ) (page slot : ℕ) → AreKnown pages words known opened
    → pages ≤ MAX_RAM_PAGES → page < pages + ROM_PAGES → slot ≡ slot_of pages page → length cleared ≡ SLOTS * SLOT_WORDS + 1
    → ((index : ℕ) (d : Operation) → index < SLOT_WORDS → IsStop (slice_index_or cleared (slot * SLOT_WORDS + index) d))
    → ((i : ℕ) (d : Operation) → ¬ (i / SLOT_WORDS ≡ slot) → slice_index_or cleared i d ≡ slice_index_or known i d)
    → AreKnown pages words cleared (slice_set opened slot (page + 1))
slot_taken pages words known cleared opened page slot are few page_within slot_is room here others =
    let slot_at : slot < length opened = rw (are.slots, slot_is) (slot_within pages page page_within) in record {
      room = room;
      slots = length-set opened slot (page + 1) ∙ are.slots;
      each = λ other index d within inside is.
          elim (cases_Bool (nat_eq slot (slot_of pages other))) [
            | inl same ↦ λ known_there.
                absurd (known_there (subst (λ (n : ℕ). IsStop (slice_index_or cleared (n * SLOT_WORDS + index) d)) (eqb-true slot (slot_of pages other) same) (here index d (omega (arith, inside)))))
            | inr apart ↦
                let away : ¬ (slot_of pages other ≡ slot) = λ same. true≢false (sym (eq-eqb slot (slot_of pages other) (sym same)) ∙ apart) in
                let far : ¬ ((slot_of pages other * SLOT_WORDS + index) / SLOT_WORDS ≡ slot) = λ same. away (sym (a_kept_slot (slot_of pages other) index (omega (arith, inside))) ∙ same) in
                subst (λ (o : Operation). IsKnown (slice_index words (other * PAGE_WORDS + index)) o) (sym (others (slot_of pages other * SLOT_WORDS + index) d far))
                (are.each other index d within inside
                (subst (λ (n : ℕ). IsTrue (nat_eq n (other + 1))) (get_or-set_other opened slot (slot_of pages other) (page + 1) 0 away) is))
          ];
      past = λ other d within.
          elim (cases_Bool (nat_eq slot other)) [
            | inl same ↦ subst (λ (n : ℕ). IsStop (slice_index_or cleared (n * SLOT_WORDS + PAGE_WORDS) d)) (eqb-true slot other same) (here PAGE_WORDS d (omega arith))
            | inr apart ↦
                let away : ¬ (other ≡ slot) = λ same. true≢false (sym (eq-eqb slot other (sym same)) ∙ apart) in
                let far : ¬ ((other * SLOT_WORDS + PAGE_WORDS) / SLOT_WORDS ≡ slot) = λ same. away (sym (a_kept_slot other PAGE_WORDS (omega arith)) ∙ same) in
                subst IsStop (sym (others (other * SLOT_WORDS + PAGE_WORDS) d far)) (are.past other d within)
          ];
      unused = λ other index d within inside is.
          elim (cases_Bool (nat_eq slot other)) [
            | inl same ↦ subst (λ (n : ℕ). IsStop (slice_index_or cleared (n * SLOT_WORDS + index) d)) (eqb-true slot other same) (here index d inside)
            | inr apart ↦
                let away : ¬ (other ≡ slot) = λ same. true≢false (sym (eq-eqb slot other (sym same)) ∙ apart) in
                let far : ¬ ((other * SLOT_WORDS + index) / SLOT_WORDS ≡ slot) = λ same. away (sym (a_kept_slot other index inside) ∙ same) in
                subst IsStop (sym (others (other * SLOT_WORDS + index) d far))
                (are.unused other index d within inside (sym (get_or-set_other opened slot other (page + 1) 0 away) ∙ is))
          ];
    }
