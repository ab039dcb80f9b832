use Rattle.std.proofs.Common.{◌≡◌, ℕ, ◌+◌, ◌-◌, ◌*◌, IfSome, slice_get, sym, ap, subst, ◌∙◌, arith}
use Rattle.input_log.specs.Log.{window_of}
use Rattle.r3k_machine.specs.State.{State}
use Rattle.r3k_machine.specs.Run.{state_at}
use Rattle.span_fact.specs.Span.{end_of}
use Rattle.checkpoints.specs.Kept.{first_at, row_at}
use Rattle.present_run.proofs.Known.{ends_there, known_before}
use Rattle.present_run.proofs.Near.{core_after, moved}
use Rattle.std.proofs.lemmas.Option.{IfSome_then}
use Rattle.present_run.proofs.records.SpanRecords.serving.Goals as goal
use Rattle.present_run.proofs.Spans.{match_map}

pub serving-requires : goal.serving-requires
serving-requires g c =
    let pages = g.row.PAGES in
    let span = g.row.SPAN in
    let now = c.args.self.now in
    let image = c.args.inputs.now.image in
    let log = c.args.inputs.now.log in
    let kept = now.kept in
    let n = c.valid-index.result in (
      omega arith,
      (
        omega arith,
        (
          omega arith,
          IfSome_then c.before-differing.result c.before-differing.ensures
              (λ set before.
              let next : n - 1 + 1 ≡ kept.valid = omega (arith, before.0, c.valid-index.ensures) in
              let start : state_at pages image log ((n - 1 + 1) * span) ≡ c.args.start.now = ap (λ (n : ℕ). state_at pages image log (n * span)) next ∙ sym c.requires.start in
              let known = known_before span kept.rows (λ n. state_at pages image log (n * span)) now.frontier kept.valid c.args.start.now (sym c.requires.start) c.requires.of.known (n - 1) next before.1 in (
                before.0,
                ends_there pages span set.now c.args.start.now (first_at kept.rows (n - 1))
                    (subst (λ set. Rattle.present_run.specs.Runs.EndsNear pages span (first_at kept.rows (n - 1)) set c.args.start.now) (sym before.2) known.near)
                    (subst (λ (s : State). IfSome (first_at kept.rows (n - 1)) (λ r. (end_of pages span r).core ≡ s.core)) start
                    (core_after pages span image log (n - 1) (first_at kept.rows (n - 1)) (c.requires.of.joined (n - 1) (omega (arith, before.0, c.valid-index.ensures))))),
              )),
        ),
      ),
    )

pub returns : goal.returns
returns g c =
    let pages = g.row.PAGES in
    let span = g.row.SPAN in
    let log = c.args.inputs.now.log in
    let kept = c.args.self.now.kept in
    let at : (place : ℕ) → slice_get (row_at kept.rows c.valid-index.result) place ≡ slice_get (row_at kept.rows kept.valid) place =
    λ place. ap (λ (n : ℕ). slice_get (row_at kept.rows n) place) c.valid-index.ensures in
    let events = c.window-events.ensures.events ∙ ap (λ (n : ℕ). window_of (n * span) ((n + 1) * span) log) c.valid-index.ensures in
    match_map c.serving.result
    (λ far serves. serves (λ place near. far place (moved pages span _ _ _ _ _ _ (sym (at place)) (sym c.requires.start) (sym events) near)))
    (λ place near. moved pages span _ _ _ _ _ _ (at place) c.requires.start events near) c.serving.ensures
