-- A run and its trace split at any point.
use Rattle.std.proofs.Common.{◌≡◌, ℕ, zero, suc, ◌+◌, ◌≤◌, ◌<◌, Bool, if◌then◌else◌, List, [], ◌∷◌, ◌++◌, length, Option, Some, None, refl, sym, ap, ◌∙◌, append_assoc, add-zero, add-one, arith, length-append}
use Rattle.std.proofs.Math.Path.{ap₂}
use Rattle.std.proofs.lemmas.List.{append-nil}
use Rattle.std.specs.List.{cons_option}
use Rattle.std.proofs.lemmas.List.Elements.{filter_map-append}
use Rattle.input_log.specs.Event.{LogEvent}
use Rattle.input_log.specs.Log.{window_of}
use Rattle.input_log.proofs.Window.{narrowed}
use Rattle.r3k_machine.specs.declared.step.Done.{Done}
use Rattle.r3k_machine.specs.declared.target.Target.{Target}
use Rattle.r3k_machine.specs.State.{State}
use Rattle.r3k_machine.specs.Step.{next, report}
use Rattle.r3k_machine.specs.Run.{run, trace, arriving, console_of, byte_on, senders_of, with_sender, last_where, last_writer, later, writes}

pub run_split : (pages : ℕ) (log : List LogEvent) (time : ℕ) (s : State) (m n : ℕ) → run pages log time s (m + n) ≡ run pages log (time + m) (run pages log time s m) n
unfolding run
run_split pages log time s m zero = ap (run pages log time s) (add-zero m)
run_split pages log time s m (suc n) =
    ap (run pages log time s) (let e : m + suc n ≡ suc (m + n) = omega arith in e)
    ∙ ap₂ (λ (t : ℕ) (u : State). next pages (arriving log t) u) (let e : time + (m + n) ≡ time + m + n = omega arith in e) (run_split pages log time s m n)

pub trace_split : (pages : ℕ) (log : List LogEvent) (time : ℕ) (s : State) (m n : ℕ) → trace pages log time s (m + n) ≡ trace pages log time s m ++ trace pages log (time + m) (run pages log time s m) n
unfolding trace
trace_split pages log time s m zero = ap (trace pages log time s) (add-zero m) ∙ sym (append-nil (trace pages log time s m))
trace_split pages log time s m (suc n) =
    ap (trace pages log time s) (let e : m + suc n ≡ suc (m + n) = omega arith in e)
    ∙ (ap₂ (λ (xs : List Done) (d : Done). xs ++ d ∷ []) (trace_split pages log time s m n)
    (ap₂ (λ (t : ℕ) (u : State). report pages (arriving log t) u) (let e : time + (m + n) ≡ time + m + n = omega arith in e) (run_split pages log time s m n))
    ∙ append_assoc (trace pages log time s m) (trace pages log (time + m) (run pages log time s m) n) (report pages (arriving log (time + m + n)) (run pages log (time + m) (run pages log time s m) n) ∷ []))

pub trace_count : (pages : ℕ) (log : List LogEvent) (time : ℕ) (s : State) (n : ℕ) → length (trace pages log time s n) ≡ n
unfolding trace
trace_count pages log time s zero = refl
trace_count pages log time s (suc n) =
    length-append (trace pages log time s n) (report pages (arriving log (time + n)) (run pages log time s n) ∷ [])
    ∙ (ap (λ (k : ℕ). k + 1) (trace_count pages log time s n) ∙ add-one n)

pub console_split : (line : ℕ) (first rest : List Done) → console_of line (first ++ rest) ≡ console_of line first ++ console_of line rest
console_split line first rest = filter_map-append (λ done. byte_on line done.sent) first rest

-- a sender in front of two parts
in_front : (step : ℕ) (byte : Option ℕ) (first rest : List ℕ) → with_sender step byte (first ++ rest) ≡ with_sender step byte first ++ rest
in_front step None first rest = refl
in_front step (Some byte) first rest = refl

pub senders_split : (line time : ℕ) (first rest : List Done)
    → senders_of line time (first ++ rest) ≡ senders_of line time first ++ senders_of line (time + length first) rest
senders_split line time [] rest = ap (λ (t : ℕ). senders_of line t rest) (let e : time ≡ time + 0 = omega arith in e)
senders_split line time (done ∷ steps) rest =
    ap (with_sender time (byte_on line done.sent)) (senders_split line (suc time) steps rest)
    ∙ (in_front time (byte_on line done.sent) (senders_of line (suc time) steps) (senders_of line (suc time + length steps) rest)
    ∙ ap (λ (t : ℕ). with_sender time (byte_on line done.sent) (senders_of line (suc time) steps) ++ senders_of line t rest)
    (let e : suc time + length steps ≡ time + suc (length steps) = omega arith in e))

-- one for each byte
as_many : (step : ℕ) (byte : Option ℕ) (senders bytes : List ℕ) → length senders ≡ length bytes
    → length (with_sender step byte senders) ≡ length (cons_option byte bytes)
as_many step None senders bytes same = same
as_many step (Some byte) senders bytes same = ap suc same

pub senders_count : (line time : ℕ) (steps : List Done) → length (senders_of line time steps) ≡ length (console_of line steps)
senders_count line time [] = refl
senders_count line time (done ∷ steps) =
    as_many time (byte_on line done.sent) (senders_of line (suc time) steps) (console_of line steps) (senders_count line (suc time) steps)

-- the last step of two parts that passes a test
joined : (count : ℕ) (rest first here : Option ℕ) → later 1 (later count rest first) here ≡ later (suc count) rest (later 1 first here)
joined count None first here = refl
joined count (Some k) first here = ap Some (omega arith)

pub where_split : (test : Done → Bool) (first rest : List Done) → last_where test (first ++ rest) ≡ later (length first) (last_where test rest) (last_where test first)
where_split test [] rest = none_first (last_where test rest)
  where
    none_first : (o : Option ℕ) → o ≡ later 0 o None
    none_first None = refl
    none_first (Some k) = ap Some (omega arith)
where_split test (done ∷ steps) rest =
    let here = if test done then Some 0 else None in
    ap (λ (o : Option ℕ). later 1 o here) (where_split test steps rest)
    ∙ joined (length steps) (last_where test rest) (last_where test steps) here

pub writer_split : (target : Target) (first rest : List Done) → last_writer target (first ++ rest) ≡ later (length first) (last_writer target rest) (last_writer target first)
writer_split target first rest = where_split (writes target) first rest

-- the events of a step within a window are those of the log
pub arriving_own : (from to time : ℕ) (log : List LogEvent) → from ≤ time → time < to → arriving (window_of from to log) time ≡ arriving log time
arriving_own from to time log first last = narrowed from to time (time + 1) log first (omega (arith, last))

-- a run and its trace depend on the events of their own times alone
pub run_within : (pages to : ℕ) (log : List LogEvent) (time : ℕ) (s : State) (n : ℕ) → time + n ≤ to
    → run pages (window_of time to log) time s n ≡ run pages log time s n
unfolding run
run_within pages to log time s zero within = refl
run_within pages to log time s (suc n) within =
    ap₂ (λ (events : List LogEvent) (u : State). next pages events u)
    (arriving_own time to (time + n) log (omega arith) (omega (arith, within)))
    (run_within pages to log time s n (omega (arith, within)))

trace_within : (pages to : ℕ) (log : List LogEvent) (time : ℕ) (s : State) (n : ℕ) → time + n ≤ to
    → trace pages (window_of time to log) time s n ≡ trace pages log time s n
unfolding trace
trace_within pages to log time s zero within = refl
trace_within pages to log time s (suc n) within =
    ap₂ (λ (steps : List Done) (done : Done). steps ++ done ∷ [])
    (trace_within pages to log time s n (omega (arith, within)))
    (ap₂ (λ (events : List LogEvent) (u : State). report pages events u)
    (arriving_own time to (time + n) log (omega arith) (omega (arith, within)))
    (run_within pages to log time s n (omega (arith, within))))

pub run_own : (pages : ℕ) (log : List LogEvent) (time : ℕ) (s : State) (n : ℕ) → run pages (window_of time (time + n) log) time s n ≡ run pages log time s n
run_own pages log time s n = run_within pages (time + n) log time s n (omega arith)

pub trace_own : (pages : ℕ) (log : List LogEvent) (time : ℕ) (s : State) (n : ℕ) → trace pages (window_of time (time + n) log) time s n ≡ trace pages log time s n
trace_own pages log time s n = trace_within pages (time + n) log time s n (omega arith)
