-- Spans that go on from where one of them ends, and logs that are the same outside some times.
use Rattle.std.proofs.Common.{◌≡◌, ℕ, zero, suc, ◌+◌, ◌*◌, ◌/◌, ◌<◌, ◌≤◌, ◌⊎◌, List, [], ◌∷◌, ◌++◌, inl, inr, length, Option, Some, drop, slice_get, take, refl, sym, ap, subst, ◌∙◌, arith}
use Rattle.std.proofs.Math.Nat.{div-mul-le_self, lt-div-mul-add, mul-le-mul_right}
use Rattle.std.proofs.Math.Path.{ap₂}
use Rattle.std.proofs.lemmas.Option.{slice_get_within}
use Rattle.std.proofs.lemmas.Bool.{cases_eq, cases_lt}
use Rattle.input_log.specs.Event.{LogEvent}
use Rattle.input_log.specs.Edits.{AreSameOutside}
use Rattle.r3k_image.specs.Boot.{Boot}
use Rattle.r3k_machine.specs.Reset.{reset}
use Rattle.r3k_machine.specs.Run.{run, state_at}
use Rattle.r3k_machine.specs.State.{State}
use Rattle.r3k_machine.proofs.Splits.{run_own}
use Rattle.span_fact.specs.Span.{Span, end_of}
use Rattle.present_run.specs.Ends.{AreEnds, GoesOn, IsJoined, IsJoinedFrom}
use Rattle.present_run.specs.Reuse.{span_from, span_of}
use Rattle.checkpoints.specs.Kept.{Kept, first_at}
use Rattle.checkpoints.proofs.Rows.{ends_long}
use Rattle.present_run.specs.Index.{Agrees, Has, Index}
use Rattle.present_run.specs.declared.frontier.Frontier.{Frontier}
use Rattle.present_run.specs.declared.records.SpanRecords.{SpanRecords}
use Rattle.present_run.specs.Runs.{AreRecords, IsKnown}
use Rattle.present_run.proofs.Known.{known_by}
use Rattle.present_run.proofs.Spans.{ends, next_start, some_is}

-- ---- a list of ends

pub at : {A : Type 0} (all : List A) (index : ℕ) → index < length all → (x : A) × (slice_get all index ≡ Some x)
at [] index within = absurd (omega (arith, within))
at (first ∷ rest) zero within = (first, refl)
at (first ∷ rest) (suc index) within = at rest index (omega (arith, within))

-- an end is put after all others or in place of one
pub record IsPut (index : ℕ) (end : State) (old new : List State) : Type 0 where
  pub within : index < length new
  pub there : slice_get new index ≡ Some end
  pub others : (i : ℕ) → ¬ (i ≡ index) → slice_get new i ≡ slice_get old i
  pub same : slice_get old index ≡ Some end → new ≡ old

pub put : (all : List State) (index : ℕ) (end : State) → index ≤ length all → IsPut index end all (take index all ++ end ∷ drop (suc index) all)
put all index end within = record {
  within = let long = ends_long all index end within in omega (arith, long);
  there = there all index within;
  others = others all index within;
  same = same all index;
}
  where
    there : (all : List State) (i : ℕ) → i ≤ length all → slice_get (take i all ++ end ∷ drop (suc i) all) i ≡ Some end
    there all zero within = refl
    there [] (suc i) within = absurd (let e : ⊥ = omega (arith, within) in e)
    there (first ∷ rest) (suc i) within = there rest i (omega (arith, within))

    others : (all : List State) (i : ℕ) → i ≤ length all → (k : ℕ) → ¬ (k ≡ i) → slice_get (take i all ++ end ∷ drop (suc i) all) k ≡ slice_get all k
    others all zero within zero other = absurd (other refl)
    others [] zero within (suc k) other = refl
    others (first ∷ rest) zero within (suc k) other = refl
    others [] (suc i) within k other = absurd (let e : ⊥ = omega (arith, within) in e)
    others (first ∷ rest) (suc i) within zero other = refl
    others (first ∷ rest) (suc i) within (suc k) other = others rest i (omega (arith, within)) k (λ e. other (ap (λ n. suc n) e))

    same : (all : List State) (i : ℕ) → slice_get all i ≡ Some end → take i all ++ end ∷ drop (suc i) all ≡ all
    same [] i is = absurd (let e : ⊥ = cc in e)
    same (first ∷ rest) zero is = ap (λ (s : State). s ∷ rest) (let e : end ≡ first = cc in e)
    same (first ∷ rest) (suc i) is = ap (λ (all : List State). first ∷ all) (same rest i is)

-- the ends of the spans of a run, with one more
pub more_ends : (pages span : ℕ) (image : Boot) (log : List LogEvent) (count : ℕ) (old new : List State) (end : State) → AreEnds pages span image log count old
    → IsPut count end old new → end ≡ state_at pages image log ((count + 1) * span) → AreEnds pages span image log (count + 1) new
more_ends pages span image log count old new end are put is = record {
  many = let e = put.within in omega (arith, e);
  each = λ index below. elim (cases_eq index count) [
    | inl here ↦ subst (λ (n : ℕ). slice_get new n ≡ Some (state_at pages image log ((n + 1) * span))) (sym here) (put.there ∙ ap (λ (s : State). Some s) is)
    | inr other ↦ put.others index other ∙ are.each index (let e : index < count = omega (arith, below, other) in e)
  ];
}

-- what holds for all numbers before one, and for that one
pub and_last : (P : ℕ → Type 0) (valid : ℕ) → ((i : ℕ) → i < valid → P i) → P valid → (i : ℕ) → i < valid + 1 → P i
and_last P valid before here i within =
    elim (cases_lt i valid) [
      | inl below ↦ before i below
      | inr above ↦ subst P (let same : valid ≡ i = omega (arith, within, above) in same) here
    ]

-- where spans end, at first
pub no_ends : (pages span : ℕ) (image : Boot) (log : List LogEvent) (count : ℕ) (ends : List State) → count ≡ 0 → ends ≡ [] → AreEnds pages span image log count ends
no_ends pages span image log count ends none empty = record {
  many = omega (arith, none);
  each = λ index within. absurd (let e : ⊥ = omega (arith, none, within) in e);
}

-- ---- spans that go on

pub goes_on : (pages span : ℕ) (image : Boot) (log : List LogEvent) (spans : List (List Span)) (all : List State) (count index : ℕ)
    → AreEnds pages span image log count all → ((i : ℕ) → i < count → IsJoined pages span i (first_at spans i) (span_of pages span image log i))
    → index + 1 < count → GoesOn pages span log spans all index
goes_on pages span image log spans all count index are joined below start end start_is end_is =
    let from : start ≡ state_at pages image log ((index + 1) * span) = some_is start _ (sym start_is ∙ are.each index (omega (arith, below))) in
    let to : end ≡ state_at pages image log ((index + 1 + 1) * span) = some_is end _ (sym end_is ∙ are.each (index + 1) below) in
    subst (λ (s : State). IsJoinedFrom pages span log (index + 1) (first_at spans (index + 1)) s end) (sym from)
    (record { ends = to ∙ sym (ends pages span image log (index + 1)); joined = joined (index + 1) below })

-- all whose ends are there are joined
pub all_joined : (pages span : ℕ) (image : Boot) (log : List LogEvent) (spans : List (List Span)) (all : List State) (valid : ℕ) → 0 < valid
    → AreEnds pages span image log valid all → ((i : ℕ) → i < valid → IsJoined pages span i (first_at spans i) (span_of pages span image log i))
    → ((index : ℕ) → valid ≤ index + 1 → GoesOn pages span log spans all index) → (index : ℕ) → index < length all
    → (slice_get all index ≡ Some (state_at pages image log ((index + 1) * span))) × IsJoined pages span index (first_at spans index) (span_of pages span image log index)
all_joined pages span image log spans all valid some are joined goes zero inside = (are.each 0 some, joined 0 some)
all_joined pages span image log spans all valid some are joined goes (suc i) inside =
    elim (cases_lt (suc i) valid) [
      | inl below ↦ (are.each (suc i) below, joined (suc i) below)
      | inr past ↦
          let before = all_joined pages span image log spans all valid some are joined goes i (omega (arith, inside)) in
          let there = at all (i + 1) (omega (arith, inside)) in
          let from = goes i (omega (arith, past)) (state_at pages image log ((i + 1) * span)) there.0 before.0 there.1 in
          subst (λ (n : ℕ). (slice_get all n ≡ Some (state_at pages image log ((n + 1) * span))) × IsJoined pages span n (first_at spans n) (span_of pages span image log n))
          (let next : i + 1 ≡ suc i = omega arith in next) (there.1 ∙ ap (λ (s : State). Some s) (from.ends ∙ ends pages span image log (i + 1)), from.joined)
    ]

-- once one more end is put: its span is joined, and all others if they go on from it
pub joined_by : (pages span : ℕ) (image : Boot) (log : List LogEvent) (spans : List (List Span)) (old new : List State) (end : State) (valid index count rejoin_from : ℕ)
    → index ≡ valid → AreEnds pages span image log valid old → IsPut index end old new → end ≡ state_at pages image log ((valid + 1) * span)
    → ((i : ℕ) → i < valid → IsJoined pages span i (first_at spans i) (span_of pages span image log i))
    → IsJoined pages span valid (first_at spans valid) (span_of pages span image log valid)
    → (count ≡ index + 1) ⊎ ((rejoin_from ≤ index) × (count ≡ length old) × (slice_get old index ≡ Some end)) → ((i : ℕ) → rejoin_from ≤ i → valid ≤ i → GoesOn pages span log spans old i)
    → AreEnds pages span image log count new × ((i : ℕ) → i < count → IsJoined pages span i (first_at spans i) (span_of pages span image log i))
joined_by pages span image log spans old new end valid index count rejoin_from is were put end_is before there met goes =
    let are = more_ends pages span image log valid old new end were (subst (λ (n : ℕ). IsPut n end old new) is put) end_is in
    let joined = and_last (λ i. IsJoined pages span i (first_at spans i) (span_of pages span image log i)) valid before there in
    elim met [
      | inl one ↦ (subst (λ (n : ℕ). AreEnds pages span image log n new) (sym (one ∙ ap (λ (n : ℕ). n + 1) is)) are, λ i below. joined i (omega (arith, below, one, is)))
      | inr all ↦
          let same = put.same all.2 in
          let on : (i : ℕ) → valid + 1 ≤ i + 1 → GoesOn pages span log spans new i = λ i past.
          subst (λ (ends : List State). GoesOn pages span log spans ends i) (sym same) (goes i (omega (arith, all.0, past, is)) (omega (arith, past))) in
          let many : count ≡ length new = all.1 ∙ ap (λ (ends : List State). length ends) (sym same) in
          let each = all_joined pages span image log spans new (valid + 1) (omega arith) are joined on in
          (record { many = omega (arith, many); each = λ i below. (each i (omega (arith, below, many))).0 }, λ i below. (each i (omega (arith, below, many))).1)
    ]

-- ---- logs that are the same outside some times

pub same_before : (pages : ℕ) (image : Boot) (log changed : List LogEvent) (from to time : ℕ) → AreSameOutside from to log changed → time ≤ from
    → state_at pages image changed time ≡ state_at pages image log time
same_before pages image log changed from to time same before =
    sym (run_own pages changed 0 (reset pages image) time)
    ∙ (ap (λ (l : List LogEvent). run pages l 0 (reset pages image) time) (same 0 (0 + time) (inl (omega (arith, before))))
    ∙ run_own pages log 0 (reset pages image) time)

pub span_before : (pages span : ℕ) (image : Boot) (log changed : List LogEvent) (from to index : ℕ) → AreSameOutside from to log changed → (index + 1) * span ≤ from
    → span_of pages span image changed index ≡ span_of pages span image log index
span_before pages span image log changed from to index same before =
    ap₂ (λ (start : State) (events : List LogEvent). let s : Span = record { index = index; start = start; events = events } in s)
    (same_before pages image log changed from to (index * span) same (omega (arith, before, next_start index span)))
    (same (index * span) ((index + 1) * span) (inl before))

pub goes_on_after : (pages span : ℕ) (log changed : List LogEvent) (spans : List (List Span)) (all : List State) (from to index : ℕ) → AreSameOutside from to log changed
    → to < (index + 1) * span → GoesOn pages span log spans all index → GoesOn pages span changed spans all index
goes_on_after pages span log changed spans all from to index same after goes start end start_is end_is =
    let was = goes start end start_is end_is in
    let is : span_from span changed (index + 1) start ≡ span_from span log (index + 1) start =
    ap (λ (events : List LogEvent). let s : Span = record { index = index + 1; start = start; events = events } in s)
    (same ((index + 1) * span) ((index + 1 + 1) * span) (inr after)) in
    record {
      ends = was.ends ∙ ap (end_of pages span) (sym is);
      joined = subst (λ (s : Span). IsJoined pages span (index + 1) (first_at spans (index + 1)) s) (sym is) was.joined;
    }

-- the span of an earlier or equal number starts at the time or before; a span of an equal or later number ends after it
pub starts_before : (time span index : ℕ) → index ≤ time / span → index * span ≤ time
starts_before time span index before =
    let least : index * span ≤ time / span * span = mul-le-mul_right span before in
    omega (arith, least, div-mul-le_self time span)

pub ends_after : (time span index : ℕ) → 0 < span → time / span ≤ index → time < (index + 1) * span
ends_after time span index some after =
    let least : time / span * span ≤ index * span = mul-le-mul_right span after in
    omega (arith, least, next_start index span, lt-div-mul-add {a = time} {b = span} some)

-- putting an end leaves the later ends
pub goes_on_put : (pages span : ℕ) (log : List LogEvent) (before after : List (List Span)) (old new : List State) (end : State) (place index : ℕ)
    → after ≡ before → IsPut place end old new → place < index → GoesOn pages span log before old index → GoesOn pages span log after new index
goes_on_put pages span log before after old new end place index same put past goes start to start_is to_is =
    subst (λ (spans : List (List Span)). IsJoinedFrom pages span log (index + 1) (first_at spans (index + 1)) start to) (sym same)
    (goes start to
    (sym (put.others index (λ e. let x : ⊥ = omega (arith, e, past) in x)) ∙ start_is)
    (sym (put.others (index + 1) (λ e. let x : ⊥ = omega (arith, e, past) in x)) ∙ to_is))

-- and so does putting a record
pub goes_on_kept : (pages span : ℕ) (log : List LogEvent) (old new : Kept) (index : ℕ) → first_at new.rows (index + 1) ≡ first_at old.rows (index + 1) → new.ends ≡ old.ends
    → GoesOn pages span log old.rows old.ends index → GoesOn pages span log new.rows new.ends index
goes_on_kept pages span log old new index same ends_are goes start to start_is to_is =
    subst (λ (o : Option Span). IsJoinedFrom pages span log (index + 1) o start to) (sym same)
    (goes start to (sym (ap (λ (all : List State). slice_get all index) ends_are) ∙ start_is) (sym (ap (λ (all : List State). slice_get all (index + 1)) ends_are) ∙ to_is))

pub same_ends : (pages span : ℕ) (image : Boot) (log : List LogEvent) (old new : Kept) → new.valid ≡ old.valid → new.ends ≡ old.ends
    → AreEnds pages span image log old.valid old.ends → AreEnds pages span image log new.valid new.ends
same_ends pages span image log old new valid_is ends_are are =
    subst (λ (n : ℕ). AreEnds pages span image log n new.ends) (sym valid_is) (subst (λ (all : List State). AreEnds pages span image log old.valid all) (sym ends_are) are)

-- ---- what an edit leaves

pub joined_before : (pages span : ℕ) (image : Boot) (log changed : List LogEvent) (from to n i : ℕ) (o : Option Span) → AreSameOutside from to log changed → n ≤ from / span → i < n
    → IsJoined pages span i o (span_of pages span image log i) → IsJoined pages span i o (span_of pages span image changed i)
joined_before pages span image log changed from to n i o same few below was =
    subst (λ (s : Span). IsJoined pages span i o s)
    (sym (span_before pages span image log changed from to i same (starts_before from span (i + 1) (omega (arith, few, below))))) was

pub ends_before : (pages span : ℕ) (image : Boot) (log changed : List LogEvent) (from to valid n : ℕ) (all : List State) → AreSameOutside from to log changed → n ≤ from / span → n ≤ valid
    → AreEnds pages span image log valid all → AreEnds pages span image changed n all
ends_before pages span image log changed from to valid n all same few less are = record {
  many = let many = are.many in omega (arith, many, less);
  each = λ index below.
      are.each index (omega (arith, below, less))
      ∙ ap (λ (s : State). Some s)
      (sym (same_before pages image log changed from to ((index + 1) * span) same (starts_before from span (index + 1) (omega (arith, below, few)))));
}

pub goes_on_over : (pages span : ℕ) (image : Boot) (log changed : List LogEvent) (spans : List (List Span)) (all : List State) (from to valid rejoin_from now index : ℕ)
    → 0 < span → AreSameOutside from to log changed → AreEnds pages span image log valid all
    → ((i : ℕ) → i < valid → IsJoined pages span i (first_at spans i) (span_of pages span image log i))
    → ((i : ℕ) → rejoin_from ≤ i → valid ≤ i → GoesOn pages span log spans all i)
    → (valid ≡ length all) ⊎ ((rejoin_from ≤ now) × (valid ≤ now)) → to / span ≤ now → now ≤ index
    → GoesOn pages span changed spans all index
goes_on_over pages span image log changed spans all from to valid rejoin_from now index some same are joined goes (inl whole) after past =
    elim (cases_lt (index + 1) valid) [
      | inl below ↦
          goes_on_after pages span log changed spans all from to index same (ends_after to span index some (omega (arith, after, past)))
          (goes_on pages span image log spans all valid index are joined below)
      | inr beyond ↦ λ start end start_is end_is. absurd (let there = slice_get_within all (index + 1) end end_is in let e : ⊥ = omega (arith, there, beyond, whole) in e)
    ]
goes_on_over pages span image log changed spans all from to valid rejoin_from now index some same are joined goes (inr later) after past =
    goes_on_after pages span log changed spans all from to index same (ends_after to span index some (omega (arith, after, past)))
    (goes index (omega (arith, later.0, past)) (omega (arith, later.1, past)))

-- the same with other kept values, of the same records
pub over_kept : {pages span : ℕ} (image : Boot) (log : List LogEvent) (records : SpanRecords pages span) (kept : Kept) (reports : Index)
    → ((i : ℕ) → first_at kept.rows i ≡ first_at records.kept.rows i) → kept.valid ≡ records.kept.valid → kept.ends ≡ records.kept.ends → Agrees pages span reports kept.rows
    → AreRecords image log records → AreRecords image log (record records { kept = kept; reports = reports })
over_kept {pages} {span} image log records kept reports same valid_is ends_are agrees of = record {
  sizes = of.sizes;
  start = of.start;
  joined = λ i within.
      subst (λ (o : Option Span). IsJoined pages span i o (span_of pages span image log i)) (sym (same i)) (of.joined i (subst (λ (n : ℕ). i < n) valid_is within));
  ends = same_ends pages span image log records.kept kept valid_is ends_are of.ends;
  rejoin_from = λ index first past.
      goes_on_kept pages span log records.kept kept index (same (index + 1)) ends_are (of.rejoin_from index first (omega (arith, valid_is, past)));
  known = known_by span records.kept.rows kept.rows (λ n. state_at pages image log (n * span)) records.frontier same of.known;
  agrees = agrees;
}

-- with the same ones, and what is known
pub over_known : {pages span : ℕ} (image : Boot) (log : List LogEvent) (records : SpanRecords pages span) (kept : Kept) (f : Frontier pages) → kept ≡ records.kept
    → IsKnown span kept.rows (λ n. state_at pages image log (n * span)) f → AreRecords image log records → AreRecords image log (record records { kept = kept; frontier = f })
over_known {pages} {span} image log records kept f same known of =
    subst (λ (k : Kept). IsKnown span k.rows (λ n. state_at pages image log (n * span)) f → AreRecords image log (record records { kept = k; frontier = f })) (sym same)
    (λ known. record { sizes = of.sizes; start = of.start; joined = of.joined; ends = of.ends; rejoin_from = of.rejoin_from; known = known; agrees = of.agrees }) known

-- and with another first record of the next span
pub over_next : {pages span : ℕ} (image : Boot) (log : List LogEvent) (records : SpanRecords pages span) (kept : Kept) (reports : Index) (f : Frontier pages) (s : Span)
    → ((i : ℕ) → ¬ (i ≡ records.kept.valid) → first_at kept.rows i ≡ first_at records.kept.rows i) → kept.valid ≡ records.kept.valid
    → kept.ends ≡ records.kept.ends → first_at kept.rows records.kept.valid ≡ Some s → s.index ≡ records.kept.valid → Has pages span reports s.index (Some s)
    → ((i : ℕ) (o : Option Span) → ¬ (i ≡ s.index) → Has pages span records.reports i o → Has pages span reports i o)
    → IsKnown span kept.rows (λ n. state_at pages image log (n * span)) f → AreRecords image log records → AreRecords image log (record records { kept = kept; reports = reports; frontier = f })
over_next {pages} {span} image log records kept reports f s others valid_is ends_are here number there rest known of = record {
  sizes = of.sizes;
  start = of.start;
  joined = λ i within.
      let below = subst (λ (n : ℕ). i < n) valid_is within in
      subst (λ (o : Option Span). IsJoined pages span i o (span_of pages span image log i)) (sym (others i (λ same. let e : ⊥ = omega (arith, below, same) in e))) (of.joined i below);
  ends = same_ends pages span image log records.kept kept valid_is ends_are of.ends;
  rejoin_from = λ index first past.
      goes_on_kept pages span log records.kept kept index
      (others (index + 1) (λ same. let e : ⊥ = omega (arith, valid_is, past, same) in e)) ends_are (of.rejoin_from index first (omega (arith, valid_is, past)));
  known = known;
  agrees = λ i. elim (cases_eq i records.kept.valid) [
    | inl is ↦
        subst (λ (o : Option Span). Has pages span reports i o) (sym (ap (first_at kept.rows) is ∙ here))
        (subst (λ (n : ℕ). Has pages span reports n (Some s)) (number ∙ sym is) there)
    | inr other ↦
        subst (λ (o : Option Span). Has pages span reports i o) (sym (others i other))
        (rest i (first_at records.kept.rows i) (λ same. other (same ∙ number)) (of.agrees i))
  ];
}
