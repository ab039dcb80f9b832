-- What is held after an edit.
use Rattle.std.proofs.Common.{◌≡◌, ℕ, List, [], Result, Ok, sym, ap, ◌∙◌}
use Rattle.std.proofs.Math.Path.{ap₂}
use Rattle.input_log.specs.Event.{LogEvent}
use Rattle.r3k_image.specs.Boot.{Boot}
use Rattle.refusal.specs.declared.fault.Fault.{Fault}
use Rattle.span_fact.specs.Span.{Span}
use Rattle.present_run.specs.TimelineView.{TimelineView, with_image, with_log}

pub log_edited : (edit : List LogEvent → Result (List LogEvent) Fault) (old : TimelineView) (log : List LogEvent) (rows : List (List Span)) (pasts steps : ℕ) (recent_states : List ℕ)
    → edit old.history.log ≡ Ok log → rows ≡ old.rows → pasts ≡ old.pasts → steps ≡ old.steps → recent_states ≡ []
    → with_log old (edit old.history.log) ≡ Ok (record { history = record { image = old.history.image; log = log }; rows = rows; pasts = pasts; steps = steps; recent_states = recent_states })
log_edited edit old log rows pasts steps recent_states is same_rows same_pasts same_steps none =
    ap (with_log old) is
    ∙ (ap₂ (λ (rows : List (List Span)) (pasts : ℕ). let r : Result TimelineView Fault = Ok (record { history = record { image = old.history.image; log = log }; rows = rows; pasts = pasts; steps = old.steps; recent_states = [] }) in r)
    (sym same_rows) (sym same_pasts)
    ∙ ap₂ (λ (steps : ℕ) (recent_states : List ℕ). let r : Result TimelineView Fault = Ok (record { history = record { image = old.history.image; log = log }; rows = rows; pasts = pasts; steps = steps; recent_states = recent_states }) in r)
    (sym same_steps) (sym none))

-- the same of the image
pub image_edited : (edit : Boot → Result Boot Fault) (old : TimelineView) (image : Boot) (rows : List (List Span)) (pasts steps : ℕ) (recent_states : List ℕ)
    → edit old.history.image ≡ Ok image → rows ≡ old.rows → pasts ≡ old.pasts → steps ≡ old.steps → recent_states ≡ []
    → with_image old (edit old.history.image) ≡ Ok (record { history = record { image = image; log = old.history.log }; rows = rows; pasts = pasts; steps = steps; recent_states = recent_states })
image_edited edit old image rows pasts steps recent_states is same_rows same_pasts same_steps none =
    ap (with_image old) is
    ∙ (ap₂ (λ (rows : List (List Span)) (pasts : ℕ). let r : Result TimelineView Fault = Ok (record { history = record { image = image; log = old.history.log }; rows = rows; pasts = pasts; steps = old.steps; recent_states = [] }) in r)
    (sym same_rows) (sym same_pasts)
    ∙ ap₂ (λ (steps : ℕ) (recent_states : List ℕ). let r : Result TimelineView Fault = Ok (record { history = record { image = image; log = old.history.log }; rows = rows; pasts = pasts; steps = steps; recent_states = recent_states }) in r)
    (sym same_steps) (sym none))
