use Rattle.std.proofs.Common.{◌≡◌, ℕ, ◌+◌, ◌*◌, ◌/◌, ◌≤◌, inl, inr, List, Option, min, sym, ap, subst, ◌∙◌, arith}
use Rattle.r3k_machine.specs.Run.{state_at}
use Rattle.r3k_machine.specs.State.{State}
use Rattle.span_fact.specs.Span.{Span}
use Rattle.checkpoints.specs.Kept.{Kept, first_at, row_at}
use Rattle.present_run.specs.Index.{Agrees}
use Rattle.present_run.specs.Ends.{AreEnds, IsJoined}
use Rattle.present_run.specs.Reuse.{span_of}
use Rattle.present_run.proofs.Rejoining.{ends_before, goes_on_kept, goes_on_over, joined_before, same_before, starts_before}
use Rattle.present_run.proofs.records.SpanRecords.forget.Goals as goal

pub returns-clause-of : goal.returns-clause-of
returns-clause-of g c =
    λ image log changed of same.
    let pages = g.row.PAGES in
    let span = g.row.SPAN in
    let from = c.args.from in
    let to = c.args.last in
    let kept = c.args.self.now.kept in
    let now = c.truncate_valid.new.self in
    let valid = kept.valid in
    let index : ℕ = from / span in
    let all = kept.ends in
    let is : now.valid ≡ min valid index = ap (λ (k : Kept). k.valid) c.truncate_valid.ensures in
    let few : now.valid ≤ index = omega (arith, is) in
    let less : now.valid ≤ valid = omega (arith, is) in
    let spans : now.rows ≡ kept.rows = ap (λ (k : Kept). k.rows) c.truncate_valid.ensures in
    let at : (i : ℕ) → first_at now.rows i ≡ first_at kept.rows i = λ i. ap (λ (s : List (List Span)). first_at s i) spans in
    let ends_are : now.ends ≡ all = ap (λ (k : Kept). k.ends) c.truncate_valid.ensures in record {
      sizes = of.sizes;
      start = of.start;
      joined = λ i below.
          subst (λ (o : Option Span). IsJoined pages span i o (span_of pages span image changed i)) (sym (at i))
          (joined_before pages span image log changed from to now.valid i (first_at kept.rows i) same few below (of.joined i (omega (arith, below, less))));
      ends = subst (λ (ends : List State). AreEnds pages span image changed now.valid ends) (sym ends_are) (ends_before pages span image log changed from to valid now.valid all same few less of.ends);
      rejoin_from = λ i first past.
          goes_on_kept pages span changed kept now i (at (i + 1)) ends_are
          (goes_on_over pages span image log changed kept.rows all from to valid c.args.self.now.rejoin_from c.rejoin_after_edit-self.result i (let s = of.sizes.least_span in omega (arith, s)) same of.ends
          of.joined of.rejoin_from
          (elim c.rejoin_after_edit-self.ensures.rejoin_from [
            | inl joined ↦ inl (sym c.valid-joined.ensures ∙ (joined ∙ c.end_count.ensures))
            | inr later ↦ inr (later.0, omega (arith, later.1, c.valid-joined.ensures))
          ])
          (omega (arith, c.rejoin_after_edit-self.ensures.last)) first);
      known =
          c.cut.ensures.known span kept.rows now.rows (λ n. state_at pages image log (n * span)) (λ n. state_at pages image changed (n * span))
          (λ n before. ap (λ (s : List (List Span)). row_at s n) spans)
          (λ n some before. same_before pages image log changed from to (n * span) same (starts_before from span n before)) of.known;
      agrees = subst (λ (s : List (List Span)). Agrees pages span c.args.self.now.reports s) (sym spans) of.agrees;
    }
