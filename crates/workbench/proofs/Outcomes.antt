-- How a run goes, from how its session and its script go.
use Rattle.std.proofs.Common.{◌≡◌, inl, inr, ℕ, ◌-◌, List, [], ◌++◌, length, Result, Ok, Err, refl, sym, ap, subst, ◌∙◌}
use Rattle.std.proofs.lemmas.List.{append-nil}
use Rattle.wb_io.specs.Calls.{Call, Moment, bytes_moved}
use Rattle.input_log.specs.Event.{LogEvent}
use Rattle.r3k_image.specs.Boot.{Boot, FitsRam}
use Rattle.wb_options.specs.declared.fault.RunFault.{RunFault}
use Rattle.wb_options.specs.declared.fault.RunFault.TheVariants.{Memory, BadImage, BadLog, BadSource, ReadFault, WriteFault, Usage, Help}
use Rattle.workbench.specs.Runs.{AnswersFirst, RunsScript, ScriptRuns, max_reads}
use Rattle.workbench.specs.Serve.{AsksFor, Layout, IsFrontFault, IsJudgement, Makes, ReadsAll, Refuses, Serves, ServesInOrder, ServesScript, image_in, log_in, size_of}
use Rattle.wb_session.specs.Session.{IsNewFault, Triple}

-- there is no session
pub no_session : (T : Type 0) (pages most : ℕ) (image : Boot) (log : List LogEvent) (fault : RunFault) → IsNewFault pages image fault → RunsScript {T = T} pages most image log (Err fault) [] []
no_session T pages most image log Memory h = (h, (refl, refl))
no_session T pages most image log (BadImage kind) h = (h.0, h.1, (refl, refl))
no_session T pages most image log (BadSource line kind) h = absurd h
no_session T pages most image log (BadLog kind) h = absurd h
no_session T pages most image log ReadFault h = absurd h
no_session T pages most image log WriteFault h = absurd h
no_session T pages most image log (Usage text) h = absurd h
no_session T pages most image log (Help text) h = absurd h

-- the script of a session
pub session_runs : {T : Type 0} (pages most : ℕ) (image : Boot) (log : List LogEvent) (s : Triple) (r : Result T RunFault) (reads writes : List Call) → FitsRam pages image → s ≡ record { image = image; log = log; position = 0 } → ScriptRuns pages most s r reads writes → RunsScript pages most image log r reads writes
session_runs pages most image log s (Ok done) reads writes f e h = (f, subst (λ (t : Triple). ScriptRuns {T = Unit {0}} pages most t (Ok tt) reads writes) e h)
session_runs pages most image log s (Err ReadFault) reads writes f e h = (f, subst (λ (t : Triple). ScriptRuns {T = Unit {0}} pages most t (Err ReadFault) reads writes) e h)
session_runs pages most image log s (Err WriteFault) reads writes f e h = (f, subst (λ (t : Triple). ScriptRuns {T = Unit {0}} pages most t (Err WriteFault) reads writes) e h)
session_runs pages most image log s (Err Memory) reads writes f e h = absurd h
session_runs pages most image log s (Err (BadImage kind)) reads writes f e h = absurd h
session_runs pages most image log s (Err (BadSource line kind)) reads writes f e h = absurd h
session_runs pages most image log s (Err (BadLog kind)) reads writes f e h = absurd h
session_runs pages most image log s (Err (Usage text)) reads writes f e h = absurd h
session_runs pages most image log s (Err (Help text)) reads writes f e h = absurd h

-- a fault of the bytes before a script
pub front_fault_serves : (T : Type 0) (pages : ℕ) (layout : Layout) (fault : RunFault) (reads : List Call) → IsFrontFault (size_of layout) reads fault → Serves {T = T} pages layout (Err fault) reads []
front_fault_serves T pages layout Memory reads h = (h, refl)
front_fault_serves T pages layout ReadFault reads h = inl (h, refl)
front_fault_serves T pages layout (BadImage why) reads h = absurd h
front_fault_serves T pages layout (BadLog why) reads h = absurd h
front_fault_serves T pages layout (BadSource line why) reads h = absurd h
front_fault_serves T pages layout WriteFault reads h = absurd h
front_fault_serves T pages layout (Usage text) reads h = absurd h
front_fault_serves T pages layout (Help text) reads h = absurd h

-- an image that could not be made
pub no_image_serves : (T : Type 0) (pages : ℕ) (layout : Layout) (fault : RunFault) (reads : List Call) → ReadsAll (size_of layout) reads → IsJudgement fault
    → Makes {A = Boot} (Err fault) (image_in layout (bytes_moved reads)) → Serves {T = T} pages layout (Err fault) reads []
no_image_serves T pages layout Memory reads all j h = (all.0, refl)
no_image_serves T pages layout (BadImage why) reads all j h = (all, inl h, refl)
no_image_serves T pages layout (BadLog why) reads all j h = (all, inl h, refl)
no_image_serves T pages layout (BadSource line why) reads all j h = (all, inl h, refl)
no_image_serves T pages layout ReadFault reads all j h = absurd j
no_image_serves T pages layout WriteFault reads all j h = absurd j
no_image_serves T pages layout (Usage text) reads all j h = absurd j
no_image_serves T pages layout (Help text) reads all j h = absurd j

-- a log that could not be made, after an image
pub no_log_serves : (T : Type 0) (pages : ℕ) (layout : Layout) (fault : RunFault) (reads : List Call) → ReadsAll (size_of layout) reads → IsJudgement fault
    → (image : Boot) → image_in layout (bytes_moved reads) ≡ Ok image
    → Makes {A = List LogEvent} (Err fault) (log_in layout (bytes_moved reads)) → Serves {T = T} pages layout (Err fault) reads []
no_log_serves T pages layout Memory reads all j image made h = (all.0, refl)
no_log_serves T pages layout (BadImage why) reads all j image made h = (all, inr (inl (image, made, h)), refl)
no_log_serves T pages layout (BadLog why) reads all j image made h = (all, inr (inl (image, made, h)), refl)
no_log_serves T pages layout (BadSource line why) reads all j image made h = (all, inr (inl (image, made, h)), refl)
no_log_serves T pages layout ReadFault reads all j image made h = absurd j
no_log_serves T pages layout WriteFault reads all j image made h = absurd j
no_log_serves T pages layout (Usage text) reads all j image made h = absurd j
no_log_serves T pages layout (Help text) reads all j image made h = absurd j

-- a script after the bytes of an image and a log
serves_script : {T : Type 0} (pages most : ℕ) (layout : Layout) (image : Boot) (log : List LogEvent) (r : Result T RunFault) (before reads writes : List Call) → ReadsAll (size_of layout) before → image_in layout (bytes_moved before) ≡ Ok image → log_in layout (bytes_moved before) ≡ Ok log → most ≡ max_reads - length before → FitsRam pages image → ScriptRuns pages most (record { image = image; log = log; position = 0 }) r reads writes → ServesScript pages layout r (before ++ reads) writes
serves_script pages most layout image log r before reads writes f m l e fits runs = record {
  before = before;
  script = reads;
  image = image;
  log = log;
  reads_are = refl;
  read = f;
  good = record { image_is = m; log_is = l; fits = fits };
  runs = subst (λ (n : ℕ). ScriptRuns pages n (record { image = image; log = log; position = 0 }) r reads writes) e runs;
}

-- a run after them
pub run_serves : {T : Type 0} (pages most : ℕ) (layout : Layout) (image : Boot) (log : List LogEvent) (r : Result T RunFault) (before reads writes : List Call) → ReadsAll (size_of layout) before → image_in layout (bytes_moved before) ≡ Ok image → log_in layout (bytes_moved before) ≡ Ok log → most ≡ max_reads - length before → RunsScript pages most image log r reads writes → Serves pages layout r (before ++ reads) writes
run_serves pages most layout image log r before reads writes f m l e h = by_result r h
  where
    script : {U : Type 0} (r : Result U RunFault) → FitsRam pages image → ScriptRuns pages most (record { image = image; log = log; position = 0 }) r reads writes → ServesScript pages layout r (before ++ reads) writes
    script r = serves_script pages most layout image log r before reads writes f m l e

    by_result : {U : Type 0} (r : Result U RunFault) → RunsScript pages most image log r reads writes → Serves pages layout r (before ++ reads) writes
    by_result (Ok done) h = script (Ok done) h.0 h.1
    by_result (Err WriteFault) h = script (Err WriteFault) h.0 h.1
    by_result (Err ReadFault) h = inr (script {U = Unit {0}} (Err ReadFault) h.0 h.1)
    by_result (Err Memory) h = (subst (λ (z : List Call). AsksFor (size_of layout) z) (sym (ap (λ (z : List Call). before ++ z) h.1.0 ∙ append-nil before)) f.0, h.1.1)
    by_result (Err (BadImage why)) h =
        subst (λ (z : List Call). Refuses pages layout (BadImage why) z writes) (sym (ap (λ (z : List Call). before ++ z) h.2.0 ∙ append-nil before))
        (f, inr (inr (image, log, m, l, h.1, ap (λ k. BadImage k) h.0)), h.2.1)
    by_result (Err (BadLog why)) h = absurd h.1
    by_result (Err (BadSource line why)) h = absurd h.1
    by_result (Err (Usage text)) h = absurd h.1
    by_result (Err (Help text)) h = absurd h.1

-- and its replies come before its reads
pub run_serves_in_order : {T : Type 0} (pages most : ℕ) (layout : Layout) (image : Boot) (log : List LogEvent) (r : Result T RunFault) (before reads writes : List Call) → ReadsAll (size_of layout) before → image_in layout (bytes_moved before) ≡ Ok image → log_in layout (bytes_moved before) ≡ Ok log → most ≡ max_reads - length before → RunsScript pages most image log r reads writes
    → (first : Moment) (moments : List Moment) → AnswersFirst pages (record { image = image; log = log; position = 0 }) (record { reads = first.reads ++ before; writes = first.writes }) [] reads moments → ServesInOrder pages layout r (before ++ reads) writes first moments
unfolding serves_script
run_serves_in_order {T} pages most layout image log r before reads writes f m l e h first moments a = by_result r h
  where
    by_result : (r : Result T RunFault) → RunsScript pages most image log r reads writes → ServesInOrder pages layout r (before ++ reads) writes first moments
    by_result (Ok done) h = inr (serves_script pages most layout image log (Ok done) before reads writes f m l e h.0 h.1, a)
    by_result (Err WriteFault) h = inr (serves_script {T = T} pages most layout image log (Err WriteFault) before reads writes f m l e h.0 h.1, a)
    by_result (Err ReadFault) h = inr (serves_script {T = T} pages most layout image log (Err ReadFault) before reads writes f m l e h.0 h.1, a)
    by_result (Err Memory) h = inl h.1.1
    by_result (Err (BadImage why)) h = inl h.2.1
    by_result (Err (BadLog why)) h = absurd h.1
    by_result (Err (BadSource line why)) h = absurd h.1
    by_result (Err (Usage text)) h = absurd h.1
    by_result (Err (Help text)) h = absurd h.1
