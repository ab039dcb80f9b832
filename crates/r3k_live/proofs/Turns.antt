-- Quick instructions that lead back to where they began come again and again.
use Rattle.std.proofs.Common.{◌≡◌, ℕ, zero, suc, ◌+◌, ◌-◌, ◌*◌, ◌/◌, ◌<◌, ◌≤◌, ◌==◌, ◌||◌, Bool, true, false, if◌then◌else◌, List, [], ◌∷◌, ◌++◌, All, Contains, length, length-append, append_assoc, Option, Some, None, slice_index, refl, sym, subst, ap, ◌∙◌, arith, inl, inr}
use Rattle.std.proofs.Math.Nat.{mul-suc}
use Rattle.std.proofs.Math.Path.{ap₂}
use Rattle.std.specs.List.{list_any}
use Rattle.std.proofs.lemmas.Bool.{cases_lt, le-ltb, lt-ltb}
use Rattle.std.proofs.lemmas.List.{append-nil}
use Rattle.std.proofs.lemmas.Grind.{same_number_lists}
use Rattle.std.proofs.lemmas.Option.{none-some}
use Rattle.std.proofs.lemmas.List.Elements.{All-contains}
use Rattle.std.proofs.lemmas.List.Folds.{list_any-append}
use Rattle.input_log.specs.Event.{LogEvent}
use Rattle.r3k_word.specs.declared.layout.TheConstants.{PAGE_BYTES, PAGE_WORDS}
use Rattle.r3k_machine.specs.declared.step.Done.{Done}
use Rattle.r3k_machine.specs.declared.target.Target.TheVariants.{Memory}
use Rattle.r3k_machine.specs.Locality.{is_touched, touches}
use Rattle.r3k_machine.specs.Quiet.{IsQuick, IsQuietFor, LeavesRest, outcome_elapsed, state_elapsed}
use Rattle.r3k_machine.specs.Run.{arriving, last_where, last_writer, later, run, trace, writes}
use Rattle.r3k_machine.specs.SameProcessor.{with_processor}
use Rattle.r3k_machine.specs.declared.state.Processor.{Processor}
use Rattle.r3k_machine.specs.State.{State}
use Rattle.r3k_machine.specs.Step.{Outcome, outcome_of_instruction, outcome_of_step}
use Rattle.r3k_machine.proofs.Splits.{where_split}
use Rattle.r3k_pages.specs.Pages.{holds}
use Rattle.dz_serial.specs.declared.write.Sent.{Sent}
use Rattle.r3k_live.specs.Going.{HasGone, HasGoneFor, IsFreeFor, LeadsTo, quick_run, quick_trace}
use Rattle.r3k_live.specs.Kept.{kept_step}
use Rattle.r3k_live.specs.Record.{is_stored_at, sent_from, stores_at, stores_in, with_sent}
use Rattle.r3k_live.specs.Recording.{Recording, Records}
use Rattle.r3k_live.specs.Waiting.{HasPassed, IsHeld, held_at, passed_by}
use Rattle.r3k_live.specs.declared.stores.Held.{Held}
use Rattle.r3k_live.proofs.Going.{run_more, trace_more}
use Rattle.r3k_live.proofs.Leads.{neither_place, quick_run_split, quick_trace_count, quick_trace_split}
use Rattle.r3k_live.proofs.Recorded.{sent_more}

-- they are back after each turn
pub back : (pages n k : ℕ) (s : State) → quick_run pages s n ≡ s → quick_run pages s (n * k) ≡ s
unfolding quick_run
back pages n zero s once = ap (quick_run pages s) (let e : n * 0 ≡ 0 = omega arith in e)
back pages n (suc k) s once =
    ap (quick_run pages s) (mul-suc n k)
    ∙ (quick_run_split pages s (n * k) n ∙ (ap (λ (t : State). quick_run pages t n) (back pages n k s once) ∙ once))

-- one turn more
turn_more : (pages n k : ℕ) (s : State) → quick_run pages s n ≡ s → quick_trace pages s (n * suc k) ≡ quick_trace pages s (n * k) ++ quick_trace pages s n
turn_more pages n k s once =
    ap (quick_trace pages s) (mul-suc n k)
    ∙ (quick_trace_split pages s (n * k) n ∙ ap (λ (t : State). quick_trace pages s (n * k) ++ quick_trace pages t n) (back pages n k s once))

-- each place of the turns has one in the first turn
pub first_of : (pages n k : ℕ) (s : State) → quick_run pages s n ≡ s → (i : ℕ) → i < n * k → (m : ℕ) × (m < n) × (quick_run pages s i ≡ quick_run pages s m)
first_of pages n zero s once i less = absurd (let e : ⊥ = omega (arith, less, (let e : n * 0 ≡ 0 = omega arith in e)) in e)
first_of pages n (suc k) s once i less =
    elim (cases_lt i (n * k)) [
      | inl early ↦ first_of pages n k s once i early
      | inr late ↦
          let within : i - n * k < n = omega (arith, late, less, mul-suc n k) in
          let same : quick_run pages s i ≡ quick_run pages s (i - n * k)
          = ap (quick_run pages s) (let e : i ≡ n * k + (i - n * k) = omega (arith, late) in e)
          ∙ (quick_run_split pages s (n * k) (i - n * k) ∙ ap (λ (t : State). quick_run pages t (i - n * k)) (back pages n k s once)) in
          (i - n * k, within, same)
    ]

-- so all of them are quick
pub all_quick : (pages n k : ℕ) (s : State) → quick_run pages s n ≡ s → ((i : ℕ) → i < n → IsQuick pages (quick_run pages s i))
    → (i : ℕ) → i < n * k → IsQuick pages (quick_run pages s i)
all_quick pages n k s once quick i less =
    let at = first_of pages n k s once i less in
    subst (IsQuick pages) (sym at.2) (quick at.0 at.1)

-- the last step of the turns that passes a test is that of the last turn
turns_where : (pages n k : ℕ) (s : State) (test : Done → Bool) (last : Option ℕ) → quick_run pages s n ≡ s → last_where test (quick_trace pages s n) ≡ last
    → last_where test (quick_trace pages s (n * suc k)) ≡ later (n * k) last None
turns_where pages n k s test (Some place) once is =
    ap (last_where test) (turn_more pages n k s once)
    ∙ (where_split test (quick_trace pages s (n * k)) (quick_trace pages s n)
    ∙ ap₂ (λ (count : ℕ) (last : Option ℕ). later count last (last_where test (quick_trace pages s (n * k)))) (quick_trace_count pages s (n * k)) is)
turns_where pages n zero s test None once is = ap (λ (m : ℕ). last_where test (quick_trace pages s m)) (let e : n * 1 ≡ n = omega arith in e) ∙ is
turns_where pages n (suc k) s test None once is =
    ap (last_where test) (turn_more pages n (suc k) s once)
    ∙ (where_split test (quick_trace pages s (n * suc k)) (quick_trace pages s n)
    ∙ (ap (λ (last : Option ℕ). later (length (quick_trace pages s (n * suc k))) last (last_where test (quick_trace pages s (n * suc k)))) is
    ∙ turns_where pages n k s test None once is))

-- a step that is kept is one of the steps
kept_within : (test : Done → Bool) (steps : List Done) → kept_step (last_where test steps) ≤ length steps
kept_within test [] = omega arith
kept_within test (done ∷ steps) = one_more (last_where test steps) (length steps) (test done) (kept_within test steps)
  where
    one_more : (rest : Option ℕ) (count : ℕ) (here : Bool) → kept_step rest ≤ count → kept_step (later 1 rest (if here then Some 0 else None)) ≤ suc count
    one_more (Some place) count here within = omega (arith, within)
    one_more None count true within = omega arith
    one_more None count false within = omega arith

-- and so the last one after others is later by all turns but the first
pub later_where : (pages n k : ℕ) (s : State) (test : Done → Bool) (steps : List Done) → quick_run pages s n ≡ s
    → kept_step (last_where test (steps ++ quick_trace pages s (n * suc k)))
    ≡ passed_by (length steps) (n * k) (kept_step (last_where test (steps ++ quick_trace pages s n)))
later_where pages n k s test steps once = by_last (last_where test (quick_trace pages s n)) refl
  where
    by_last : (last : Option ℕ) → last_where test (quick_trace pages s n) ≡ last
        → kept_step (last_where test (steps ++ quick_trace pages s (n * suc k)))
        ≡ passed_by (length steps) (n * k) (kept_step (last_where test (steps ++ quick_trace pages s n)))
    by_last (Some place) is =
        let all = where_split test steps (quick_trace pages s (n * suc k))
        ∙ ap (λ (last : Option ℕ). later (length steps) last (last_where test steps)) (turns_where pages n k s test (Some place) once is) in
        let first = where_split test steps (quick_trace pages s n) ∙ ap (λ (last : Option ℕ). later (length steps) last (last_where test steps)) is in
        ap kept_step all
        ∙ (let e : length steps + (n * k + place) + 1 ≡ length steps + place + 1 + n * k = omega arith in e)
        ∙ sym (ap (λ (o : Option ℕ). passed_by (length steps) (n * k) (kept_step o)) first
        ∙ rw (lt-ltb (length steps) (length steps + place + 1) (omega arith)) refl)
    by_last None is =
        let all = where_split test steps (quick_trace pages s (n * suc k))
        ∙ ap (λ (last : Option ℕ). later (length steps) last (last_where test steps)) (turns_where pages n k s test None once is) in
        let first = where_split test steps (quick_trace pages s n) ∙ ap (λ (last : Option ℕ). later (length steps) last (last_where test steps)) is in
        ap kept_step all
        ∙ sym (ap (λ (o : Option ℕ). passed_by (length steps) (n * k) (kept_step o)) first
        ∙ rw (le-ltb (length steps) (kept_step (last_where test steps)) (kept_within test steps)) refl)

-- what a turn does once, all do
pub turns_any : (pages n k : ℕ) (s : State) (p : Done → Bool) → quick_run pages s n ≡ s
    → list_any p (quick_trace pages s (n * suc k)) ≡ list_any p (quick_trace pages s n)
turns_any pages n zero s p once = ap (λ (m : ℕ). list_any p (quick_trace pages s m)) (let e : n * 1 ≡ n = omega arith in e)
turns_any pages n (suc k) s p once =
    ap (list_any p) (turn_more pages n (suc k) s once)
    ∙ (list_any-append p (quick_trace pages s (n * suc k)) (quick_trace pages s n)
    ∙ (ap (λ (b : Bool). b || list_any p (quick_trace pages s n)) (turns_any pages n k s p once) ∙ twice (list_any p (quick_trace pages s n))))
  where
    twice : (b : Bool) → (b || b) ≡ b
    twice true = refl
    twice false = refl

pub after_any : (pages n k : ℕ) (s : State) (p : Done → Bool) (steps : List Done) → quick_run pages s n ≡ s
    → list_any p (steps ++ quick_trace pages s (n * suc k)) ≡ list_any p (steps ++ quick_trace pages s n)
after_any pages n k s p steps once =
    list_any-append p steps (quick_trace pages s (n * suc k))
    ∙ (ap (λ (b : Bool). list_any p steps || b) (turns_any pages n k s p once) ∙ sym (list_any-append p steps (quick_trace pages s n)))

-- quick instructions send nothing
pub unsent : (pages n : ℕ) (s : State) (steps : List Done) → ((i : ℕ) → i < n → (outcome_of_instruction pages (quick_run pages s i)).done.sent ≡ None)
    → sent_from 0 (steps ++ quick_trace pages s n) ≡ sent_from 0 steps
unfolding quick_trace
unsent pages zero s steps none = ap (sent_from 0) (append-nil steps)
unsent pages (suc n) s steps none =
    let so_far = steps ++ quick_trace pages s n in
    let done = (outcome_of_instruction pages (quick_run pages s n)).done in
    ap (sent_from 0) (sym (append_assoc steps (quick_trace pages s n) (done ∷ [])))
    ∙ (sent_more 0 so_far done
    ∙ (ap (λ (sent : Option Sent). sent_from 0 so_far ++ with_sent (0 + length so_far) sent []) (none n (omega arith))
    ∙ (append-nil (sent_from 0 so_far) ∙ unsent pages n s steps (λ i less. none i (omega (arith, less))))))

-- a test that no step of two lists passes
neither_where : (test : Done → Bool) (first rest : List Done) → last_where test (first ++ rest) ≡ None → (last_where test first ≡ None) × (last_where test rest ≡ None)
neither_where test first rest none = neither_place (length first) (last_where test rest) (last_where test first) (sym (where_split test first rest) ∙ none)

-- what a recorder holds of turns that have passed
pub passed_records : (pages n k : ℕ) (s : State) (steps : List Done) (r now : Recording) → quick_run pages s n ≡ s
    → ((i : ℕ) → i < n * suc k → (outcome_of_instruction pages (quick_run pages s i)).done.sent ≡ None)
    → Records pages (steps ++ quick_trace pages s n) r → HasPassed pages (length steps) (n * k) r now
    → Records pages (steps ++ quick_trace pages s (n * suc k)) now
passed_records pages n k s steps r now once none records passed =
    let all = quick_trace pages s (n * suc k) in
    let turn = quick_trace pages s n in
    let within : (test : Done → Bool) → kept_step (last_where test (steps ++ turn)) ≤ r.steps
    = λ test. subst (λ (count : ℕ). kept_step (last_where test (steps ++ turn)) ≤ count) (sym records.count) (kept_within test (steps ++ turn)) in record {
      count =
          passed.steps
          ∙ (ap (λ (m : ℕ). m + n * k) (records.count ∙ (length-append steps turn ∙ ap (λ (m : ℕ). length steps + m) (quick_trace_count pages s n)))
          ∙ ((let e : length steps + n + n * k ≡ length steps + n * suc k = omega (arith, mul-suc n k) in e)
          ∙ sym (length-append steps all ∙ ap (λ (m : ℕ). length steps + m) (quick_trace_count pages s (n * suc k)))));
      last = λ place less.
          passed.last place less (subst (λ (m : ℕ). m ≤ r.steps) (sym (records.last place less)) (within (writes (Memory (4 * place)))))
          ∙ (ap (passed_by (length steps) (n * k)) (records.last place less) ∙ sym (later_where pages n k s (writes (Memory (4 * place))) steps once));
      ram = λ address other. none_later (writes (Memory address)) (records.ram address other);
      dirty = λ page.
          ap (λ (set : List ℕ). holds set page) passed.dirty ∙ (records.dirty page ∙ sym (after_any pages n k s (λ done. stores_in page done.stored) steps once));
      destinations = λ number less.
          passed.destinations number less
          (subst (λ (m : ℕ). m ≤ r.steps) (sym (records.destinations number less)) (within (λ done. done.wrote == number)))
          ∙ (ap (passed_by (length steps) (n * k)) (records.destinations number less) ∙ sym (later_where pages n k s (λ done. done.wrote == number) steps once));
      touched = λ page. ap (λ (set : List ℕ). holds set page) passed.touched ∙ (records.touched page ∙ sym (after_touched page));
      sent =
          passed.sent
          ∙ (records.sent ∙ (unsent pages n s steps (λ i less. none i (omega (arith, less, mul-suc n k, first_turn))) ∙ sym (unsent pages (n * suc k) s steps none)));
    }
  where
    first_turn : n ≤ n * suc k
    first_turn = omega (arith, mul-suc n k)

    none_later : (test : Done → Bool) → last_where test (steps ++ quick_trace pages s n) ≡ None → last_where test (steps ++ quick_trace pages s (n * suc k)) ≡ None
    none_later test none =
        let parts = neither_where test steps (quick_trace pages s n) none in
        where_split test steps (quick_trace pages s (n * suc k))
        ∙ (ap (λ (last : Option ℕ). later (length steps) last (last_where test steps)) (turns_where pages n k s test None once parts.1) ∙ parts.0)

    after_touched : (page : ℕ) → is_touched (steps ++ quick_trace pages s (n * suc k)) page ≡ is_touched (steps ++ quick_trace pages s n) page
    after_touched page = after_any pages n k s (touches page) steps once

-- the steps of a run that are quick, in times that no event reaches
pub record RunsQuickly (pages : ℕ) (log : List LogEvent) (from : ℕ) (start : State) (before n : ℕ) (s : State) : Type 0 where
  pub state : run pages log from start (before + n) ≡ state_elapsed n (quick_run pages s n)
  pub steps : trace pages log from start (before + n) ≡ trace pages log from start before ++ quick_trace pages s n
  pub quiet : (most : ℕ) → IsQuietFor most s.core → IsQuietFor most (quick_run pages s n).core

pub runs_quickly : (pages : ℕ) (log : List LogEvent) (from : ℕ) (start : State) (before n most : ℕ) (s : State)
    → ((s : State) → state_elapsed 0 s ≡ s)
    → ((n : ℕ) (s : State) → IsQuietFor (n + 1) s.core → IsQuick pages s → outcome_of_step pages [] (state_elapsed n s) ≡ outcome_elapsed (n + 1) (outcome_of_instruction pages s))
    → ((n : ℕ) (s : State) → IsQuick pages s → IsQuietFor n s.core → IsQuietFor n (outcome_of_instruction pages s).state.core)
    → n ≤ most → IsQuietFor most s.core → ((i : ℕ) → i < n → IsQuick pages (quick_run pages s i)) → IsFreeFor most log (from + before)
    → run pages log from start before ≡ s → RunsQuickly pages log from start before n s
unfolding quick_run quick_trace
runs_quickly pages log from start before zero most s none at_once stays_quiet within quiet quick free here =
    let same : before + 0 ≡ before = omega arith in record {
      state = ap (run pages log from start) same ∙ (here ∙ sym (none s));
      steps = ap (trace pages log from start) same ∙ sym (append-nil (trace pages log from start before));
      quiet = λ most quiet. quiet;
    }
runs_quickly pages log from start before (suc n) most s none at_once stays_quiet within quiet quick free here =
    let so_far = runs_quickly pages log from start before n most s none at_once stays_quiet (omega (arith, within)) quiet (λ i less. quick i (omega (arith, less))) free here in
    let now = quick_run pages s n in
    let still = so_far.quiet most quiet in
    let enough : IsQuietFor (n + 1) now.core = record { counts = omega (arith, still.counts, within); sampled = still.sampled; unwanted = still.unwanted } in
    let more : before + n + 1 ≡ before + suc n = omega arith in
    let no_event = ap (arriving log) (let e : from + (before + n) ≡ from + before + n = omega arith in e) ∙ free n (omega (arith, within)) in
    let outcome : outcome_of_step pages (arriving log (from + (before + n))) (run pages log from start (before + n)) ≡ outcome_elapsed (n + 1) (outcome_of_instruction pages now)
    = ap₂ (outcome_of_step pages) no_event so_far.state ∙ at_once n now enough (quick n (omega arith)) in
    let one : n + 1 ≡ suc n = omega arith in record {
      state =
          ap (run pages log from start) (sym more)
          ∙ (sym (run_more pages log from start (before + n))
          ∙ (ap (λ (o : Outcome). o.state) outcome ∙ ap (λ (m : ℕ). state_elapsed m (outcome_of_instruction pages now).state) one));
      steps =
          ap (trace pages log from start) (sym more)
          ∙ (sym (trace_more pages log from start (before + n))
          ∙ (ap₂ (λ (steps : List Done) (done : Done). steps ++ done ∷ []) so_far.steps (ap (λ (o : Outcome). o.done) outcome)
          ∙ append_assoc (trace pages log from start before) (quick_trace pages s n) ((outcome_of_instruction pages now).done ∷ [])));
      quiet = λ most quiet. stays_quiet most now (quick n (omega arith)) (so_far.quiet most quiet);
    }

-- a turn that came back, and all turns that have passed after it
pub goes_round : (pages : ℕ) (log : List LogEvent) (from : ℕ) (start : State) (address before n k most : ℕ) (s : State) (r mid later : Recording)
    → ((s : State) → state_elapsed 0 s ≡ s)
    → ((n : ℕ) (s : State) → IsQuietFor (n + 1) s.core → IsQuick pages s → outcome_of_step pages [] (state_elapsed n s) ≡ outcome_elapsed (n + 1) (outcome_of_instruction pages s))
    → ((n : ℕ) (s : State) → IsQuick pages s → IsQuietFor n s.core → IsQuietFor n (outcome_of_instruction pages s).state.core)
    → ((s : State) → IsQuick pages s → (outcome_of_instruction pages s).done.sent ≡ None)
    → n * suc k ≤ most → IsQuietFor most s.core → IsFreeFor most log (from + before) → ¬ (s.core.pc ≡ address)
    → LeadsTo pages n s s r mid → HasPassed pages r.steps (n * k) mid later
    → HasGone pages log from start before s r → HasGoneFor pages log from start address before n r (state_elapsed n s) mid
    → HasGoneFor pages log from start address before (n * suc k) r (state_elapsed (n * suc k) s) later
unfolding quick_run
goes_round pages log from start address before n k most s r mid later none at_once stays_quiet sends_nothing within quiet free elsewhere leads passed gone first =
    let total = n * suc k in
    let once : quick_run pages s n ≡ s = sym leads.end in
    let quick = all_quick pages n (suc k) s once leads.quick in
    let runs : (m : ℕ) → m ≤ total → RunsQuickly pages log from start before m s
    = λ m most_m.
    runs_quickly pages log from start before m most s none at_once stays_quiet (omega (arith, most_m, within)) quiet (λ i less. quick i (omega (arith, less, most_m))) free (sym gone.state)
    in
    let all = runs total (omega arith) in
    let turn = runs n (omega (arith, mul-suc n k)) in
    let pc_at : (m : ℕ) → m ≤ total → (run pages log from start (before + m)).core.pc ≡ (quick_run pages s m).core.pc
    = λ m most_m. ap (λ (t : State). t.core.pc) (runs m most_m).state in
    let so_far = trace pages log from start before in
    let stored_same : (place : ℕ) → is_stored_at (trace pages log from start (before + total)) place ≡ is_stored_at (trace pages log from start (before + n)) place
    = λ place.
    ap (λ (steps : List Done). is_stored_at steps place) all.steps
    ∙ (after_any pages n k s (λ done. stores_at place done.stored) so_far once ∙ sym (ap (λ (steps : List Done). is_stored_at steps place) turn.steps)) in
    let stands_first : (i : ℕ) → before ≤ i → i ≤ before + total → (m : ℕ) × (m ≤ n) × ((run pages log from start i).core.pc ≡ (run pages log from start (before + m)).core.pc)
    = λ i low high.
    let at : before + (i - before) ≡ i = omega (arith, low) in
    let here = ap (λ (j : ℕ). (run pages log from start j).core.pc) (sym at) ∙ pc_at (i - before) (omega (arith, low, high)) in
    elim (cases_lt (i - before) total) [
      | inl early ↦
          let m = first_of pages n (suc k) s once (i - before) early in (
            m.0,
            omega (arith, m.1),
            here ∙ (ap (λ (t : State). t.core.pc) m.2 ∙ sym (pc_at m.0 (omega (arith, m.1, mul-suc n k)))),
          )
      | inr end ↦ (
        0,
        omega arith,
        here
            ∙ (ap (λ (j : ℕ). (quick_run pages s j).core.pc) (let e : i - before ≡ total = omega (arith, end, low, high) in e)
            ∙ (ap (λ (t : State). t.core.pc) (back pages n (suc k) s once) ∙ sym (pc_at 0 (omega arith)))),
      )
    ] in record {
      gone = record {
        state = sym (all.state ∙ ap (state_elapsed total) (back pages n (suc k) s once));
        recorded =
            subst (λ (steps : List Done). Records pages steps later) (sym all.steps)
            (passed_records pages n k s so_far mid later once (λ i less. sends_nothing (quick_run pages s i) (quick i less)) (leads.records so_far gone.recorded)
            (subst (λ (count : ℕ). HasPassed pages count (n * k) mid later) gone.recorded.count passed));
        stayed = λ place clean. first.gone.stayed place (sym (stored_same place) ∙ clean);
      };
      passed = λ small i above below there.
          let m = first_of pages n (suc k) s once (i - before) (omega (arith, above, below)) in
          let here = ap (λ (j : ℕ). (run pages log from start j).core.pc) (let e : before + (i - before) ≡ i = omega (arith, above) in e) ∙ there in
          let at : (quick_run pages s m.0).core.pc ≡ address = sym (ap (λ (t : State). t.core.pc) m.2) ∙ (sym (pc_at (i - before) (omega (arith, above, below))) ∙ here) in
          elim (cases_lt 0 m.0) [
            | inl some ↦ first.passed small (before + m.0) (omega (arith, some)) (omega (arith, m.1)) (pc_at m.0 (omega (arith, m.1, mul-suc n k)) ∙ at)
            | inr zero_there ↦ elsewhere (ap (λ (j : ℕ). (quick_run pages s j).core.pc) (let e : 0 ≡ m.0 = omega (arith, zero_there) in e) ∙ at)
          ];
      code_pages = λ set before_it page.
          let there = first.code_pages set before_it page in
          let same = ap (λ (code_pages : List ℕ). holds code_pages page) passed.code_pages in (
            λ held. elim (there.0 (sym same ∙ held)) [
              | inl was ↦ inl was
              | inr (i, less, pc) ↦ inr (i, omega (arith, less, mul-suc n k), pc)
            ],
            λ either. same ∙ elim either [
              | inl was ↦ there.1 (inl was)
              | inr (i, less, pc) ↦ elim (cases_lt i before) [
                | inl early ↦ there.1 (inr (i, omega (arith, early), pc))
                | inr late ↦
                    let m = stands_first i late less in
                    there.1 (inr (before + m.0, omega (arith, m.1), sym (ap (λ (pc : ℕ). pc / PAGE_BYTES) m.2) ∙ pc))
              ]
            ],
          );
    }

-- quick instructions leave translation entries, caches and devices
rest_left : (pages n : ℕ) (s : State) → ((s : State) → IsQuick pages s → LeavesRest s.core (outcome_of_instruction pages s).state.core)
    → ((i : ℕ) → i < n → IsQuick pages (quick_run pages s i)) → LeavesRest s.core (quick_run pages s n).core
unfolding quick_run
rest_left pages zero s leaves quick = record { entries = refl; caches = refl; bus = refl }
rest_left pages (suc n) s leaves quick =
    let so_far = rest_left pages n s leaves (λ i less. quick i (omega (arith, less))) in
    let more = leaves (quick_run pages s n) (quick n (omega arith)) in
    record { entries = more.entries ∙ so_far.entries; caches = more.caches ∙ so_far.caches; bus = more.bus ∙ so_far.bus }

-- a word that is as it was: no step stored into it, or it is held
word_back : (pages n place : ℕ) (s t : State) (r mid : Recording) (steps : List Done) (held : List Held) (last : List ℕ) (since : ℕ) → LeadsTo pages n s t r mid
    → Records pages steps r → All (IsHeld since last s.words) held
    → ((place : ℕ) → length steps < slice_index mid.last place → Contains held (held_at t.words place)) → slice_index t.words place ≡ slice_index s.words place
word_back pages n place s t r mid steps held last since leads records are all =
    by_writer (last_writer (Memory (4 * place)) (quick_trace pages s n)) refl
  where
    by_writer : (writer : Option ℕ) → last_writer (Memory (4 * place)) (quick_trace pages s n) ≡ writer → slice_index t.words place ≡ slice_index s.words place
    by_writer None is = sym (leads.stayed place is)
    by_writer (Some step) is =
        let now = leads.records steps records in
        let written : last_writer (Memory (4 * place)) (steps ++ quick_trace pages s n) ≡ Some (length steps + step)
        = where_split (writes (Memory (4 * place))) steps (quick_trace pages s n)
        ∙ ap (λ (last : Option ℕ). later (length steps) last (last_writer (Memory (4 * place)) steps)) is in
        elim (cases_lt place (pages * PAGE_WORDS)) [
          | inl within ↦
              let kept : slice_index mid.last place ≡ length steps + step + 1 = now.last place within ∙ ap kept_step written in
              let word = All-contains (IsHeld since last s.words) held (held_at t.words place) are (all place (omega (arith, kept))) in
              word.word
          | inr past ↦ absurd (none-some _ (sym (now.ram (4 * place) (λ ram. absurd (let e : ⊥ = omega (arith, ram.1, past) in e))) ∙ written))
        ]

-- so the state is as it was
pub came_back : (pages n : ℕ) (s t : State) (r mid : Recording) (steps : List Done) (held : List Held) (last : List ℕ) (since : ℕ) (p : Processor)
    → ((s : State) → IsQuick pages s → LeavesRest s.core (outcome_of_instruction pages s).state.core)
    → LeadsTo pages n s t r mid → Records pages steps r → All (IsHeld since last s.words) held
    → ((place : ℕ) → length steps < slice_index mid.last place → Contains held (held_at t.words place))
    → length t.words ≡ length s.words → with_processor s.core p ≡ s.core → t.core ≡ with_processor t.core p → t ≡ s
came_back pages n s t r mid steps held last since p leaves leads records are all long was is =
    let rest = subst (λ (u : State). LeavesRest s.core u.core) (sym leads.end) (rest_left pages n s leaves leads.quick) in
    let words = same_number_lists t.words s.words long (λ place within. word_back pages n place s t r mid steps held last since leads records are all) in
    let core = is ∙ (rest_of rest ∙ was) in
    λ i. record { core = core i; words = words i }
  where
    rest_of : LeavesRest s.core t.core → with_processor t.core p ≡ with_processor s.core p
    rest_of rest = λ i. record (with_processor s.core p) { entries = rest.entries i; caches = rest.caches i; bus = rest.bus i }
