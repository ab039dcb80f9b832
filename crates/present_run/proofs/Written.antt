-- The marks of a record are those of all that its steps wrote. So where the mark of a word or a register is not among them, no step
-- wrote it.
use Rattle.std.proofs.Common.{◌≡◌, ℕ, zero, suc, ◌+◌, ◌*◌, ◌/◌, ◌<◌, ◌≤◌, ◌==◌, Bool, true, false, if◌then◌else◌, is_some, List, [], ◌∷◌, Option, Some, None, IfSome, nat_eq, inl, inr, refl, sym, ap, ◌∙◌, arith}
use Rattle.std.proofs.Math.Path.{ap₂}
use Rattle.std.proofs.lemmas.List.Folds.{list_any-append}
use Rattle.std.proofs.lemmas.Bool.{cases_Bool, cases_lt, eq-eqb, eqb-true, or_from, or_parts, true≢false}
use Rattle.input_log.specs.Event.{LogEvent}
use Rattle.r3k_word.specs.declared.layout.TheConstants.{PAGE_BYTES}
use Rattle.r3k_machine.specs.declared.step.Done.{Done}
use Rattle.r3k_machine.specs.State.{State}
use Rattle.r3k_machine.specs.Step.{report}
use Rattle.r3k_machine.specs.declared.target.Target.{Target}
use Rattle.r3k_machine.specs.declared.target.Target.TheVariants.{Memory, Register}
use Rattle.r3k_machine.specs.Run.{arriving, is_stored, last_writer, later, run, trace}
use Rattle.r3k_machine.specs.Reports.{IsPage}
use Rattle.r3k_machine.proofs.Within.{store_within}
use Rattle.r3k_pages.specs.Pages.{holds, page_count_of}
use Rattle.r3k_live.specs.Marks.{mark_of, marks_of, registers_below}
use Rattle.r3k_live.specs.Record.{dirty_pages, is_dirty, stores_in}
use Rattle.r3k_pages.proofs.Ascending.{holds_where}
use Rattle.r3k_live.proofs.Recorded.{any_more}
use Rattle.r3k_live.proofs.Wrote.{no_register}
use Rattle.span_fact.specs.Span.{Span}
use Rattle.present_run.specs.Index.{steps_in}

not_equal : (a b : ℕ) → ¬ (a ≡ b) → nat_eq a b ≡ false
not_equal a b other = elim (cases_Bool (nat_eq a b)) [ inl same ↦ absurd (other (eqb-true a b same)) | inr apart ↦ apart ]

-- no step stores into a page past the last one
step_not_past : (pages page : ℕ) (stored : Option ℕ) → page_count_of pages ≤ page → IfSome stored (λ address. IsPage pages (address / PAGE_BYTES))
    → stores_in page stored ≡ false
step_not_past pages page None past within = refl
step_not_past pages page (Some address) past within =
    not_equal (address / PAGE_BYTES) page (λ same. absurd (let e : ⊥ = omega (arith, same, within, past) in e))

none_past : (pages : ℕ) (log : List LogEvent) (time : ℕ) (s : State) (n page : ℕ) → page_count_of pages ≤ page → is_dirty (trace pages log time s n) page ≡ false
unfolding trace
none_past pages log time s zero page past = refl
none_past pages log time s (suc n) page past =
    let events = arriving log (time + n) in
    let here = run pages log time s n in
    let done = report pages events here in
    any_more (λ done. stores_in page done.stored) (trace pages log time s n) done
    ∙ or_from (is_dirty (trace pages log time s n) page) (stores_in page done.stored) (none_past pages log time s n page past)
    (step_not_past pages page done.stored past (store_within pages events here))

clean : (pages : ℕ) (log : List LogEvent) (time : ℕ) (s : State) (n page : ℕ) → holds (dirty_pages pages (trace pages log time s n)) page ≡ false
    → is_dirty (trace pages log time s n) page ≡ false
clean pages log time s n page free =
    elim (cases_lt page (page_count_of pages)) [
      | inl within ↦ sym (holds_where pages (is_dirty (trace pages log time s n)) page within) ∙ free
      | inr past ↦ none_past pages log time s n page past
    ]

-- steps that do not store into a page store into no word of it
not_here : (address : ℕ) (stored : Option ℕ) → stores_in (address / PAGE_BYTES) stored ≡ false → is_stored address stored ≡ false
not_here address None free = refl
not_here address (Some there) free =
    elim (cases_Bool (there == address)) [
      | inl here ↦
          let same = eqb-true there address here in
          absurd (true≢false (sym (eq-eqb (there / PAGE_BYTES) (address / PAGE_BYTES) (ap (λ (a : ℕ). a / PAGE_BYTES) same)) ∙ free))
      | inr apart ↦ apart
    ]

none_stored : (address : ℕ) (steps : List Done) → is_dirty steps (address / PAGE_BYTES) ≡ false → last_writer (Memory address) steps ≡ None
none_stored address [] free = refl
none_stored address (done ∷ steps) free =
    let parts = or_parts (stores_in (address / PAGE_BYTES) done.stored) (is_dirty steps (address / PAGE_BYTES)) free in
    ap₂ (λ (o : Option ℕ) (b : Bool). later 1 o (if b then Some 0 else None)) (none_stored address steps parts.1) (not_here address done.stored parts.0)

none_in_page : (pages span : ℕ) (s : Option Span) (address : ℕ) → holds (dirty_pages pages (steps_in pages span s)) (address / PAGE_BYTES) ≡ false
    → last_writer (Memory address) (steps_in pages span s) ≡ None
none_in_page pages span None address free = refl
none_in_page pages span (Some s) address free =
    none_stored address (steps_in pages span (Some s)) (clean pages s.events (s.index * span) s.start span (address / PAGE_BYTES) free)

-- a register below one whose mark is not there was not written
none_there : (o : Option ℕ) → is_some o ≡ false → o ≡ None
none_there None none = refl
none_there (Some k) none = absurd (true≢false none)

own_mark : (n : ℕ) (written : Bool) → holds (if written then mark_of (Register n) ∷ [] else []) (mark_of (Register n)) ≡ false → written ≡ false
own_mark n true free = absurd (true≢false (sym (eq-eqb (mark_of (Register n)) (mark_of (Register n)) refl) ∙ (or_parts (nat_eq (mark_of (Register n)) (mark_of (Register n))) false free).0))
own_mark n false free = refl

unmarked : (steps : List Done) (m n : ℕ) → n < m → holds (registers_below steps m) (mark_of (Register n)) ≡ false → last_writer (Register n) steps ≡ None
unfolding registers_below
unmarked steps zero n below free = absurd (let e : ⊥ = omega (arith, below) in e)
unmarked steps (suc m) n below free =
    let last = if is_some (last_writer (Register m) steps) then mark_of (Register m) ∷ [] else [] in
    let parts = or_parts (holds (registers_below steps m) (mark_of (Register n))) (holds last (mark_of (Register n)))
    (sym (list_any-append (λ other. nat_eq other (mark_of (Register n))) (registers_below steps m) last) ∙ free) in
    elim (cases_lt n m) [
      | inl lower ↦ unmarked steps m n lower parts.0
      | inr not ↦
          let same : n ≡ m = omega (arith, below, not) in
          let here : holds last (mark_of (Register m)) ≡ false = ap (λ (k : ℕ). holds last (mark_of (Register k))) (sym same) ∙ parts.1 in
          ap (λ (k : ℕ). last_writer (Register k) steps) same
          ∙ none_there (last_writer (Register m) steps) (own_mark m (is_some (last_writer (Register m) steps)) here)
    ]

none_of_register : (steps : List Done) (number : ℕ) → holds (registers_below steps 34) (mark_of (Register number)) ≡ false → last_writer (Register number) steps ≡ None
none_of_register steps number free =
    elim (cases_lt number 34) [
      | inl within ↦ unmarked steps 34 number within free
      | inr past ↦ no_register number steps (inr (let e : 33 < number = omega (arith, past) in e))
    ]

-- where the mark is not among those of a record, it wrote nothing of the kind
pub none_marked : (pages span : ℕ) (s : Option Span) (target : Target) → holds (marks_of pages (steps_in pages span s)) (mark_of target) ≡ false
    → last_writer target (steps_in pages span s) ≡ None
none_marked pages span s target free = by_target target free
  where
    parts : (mark : ℕ) → holds (marks_of pages (steps_in pages span s)) mark ≡ false
        → (holds (dirty_pages pages (steps_in pages span s)) mark ≡ false) × (holds (registers_below (steps_in pages span s) 34) mark ≡ false)
    parts mark free =
        or_parts (holds (dirty_pages pages (steps_in pages span s)) mark) (holds (registers_below (steps_in pages span s) 34) mark)
        (sym (list_any-append (λ other. nat_eq other mark) (dirty_pages pages (steps_in pages span s)) (registers_below (steps_in pages span s) 34)) ∙ free)

    by_target : (target : Target) → holds (marks_of pages (steps_in pages span s)) (mark_of target) ≡ false → last_writer target (steps_in pages span s) ≡ None
    by_target (Memory address) free = none_in_page pages span s address (parts (mark_of (Memory address)) free).0
    by_target (Register number) free = none_of_register (steps_in pages span s) number (parts (mark_of (Register number)) free).1
