use Rattle.std.proofs.Common.{◌≡◌, ◌∷◌, ◌++◌, ℕ, ◌*◌, ◌<◌, IsSome, List, Option, drop, suc, take, sym, ap, subst, ◌∙◌, arith}
use Rattle.r3k_machine.specs.State.{State}
use Rattle.r3k_machine.specs.Run.{state_at}
use Rattle.span_fact.specs.Span.{Span}
use Rattle.checkpoints.specs.Kept.{Kept, first_at}
use Rattle.present_run.specs.Index.{Agrees, Index}
use Rattle.present_run.specs.Reuse.{span_of}
use Rattle.present_run.specs.Runs.{IsKnown}
use Rattle.present_run.specs.Ends.{AreEnds, GoesOn, IsJoined}
use Rattle.present_run.proofs.Rejoining.{goes_on_put, joined_by, put}
use Rattle.present_run.proofs.Near.{is_there}
use Rattle.present_run.proofs.records.SpanRecords.join.Goals as goal

pub set_end-requires : goal.set_end-requires
set_end-requires g c =
    let many = c.requires.of.ends.many in (
      omega arith,
      (
        omega arith,
        (
          subst (λ (n : ℕ). IsSome (first_at c.args.self.now.kept.rows n)) (sym c.valid-index.ensures) (is_there g.row.PAGES g.row.SPAN _ _ _ c.requires.there.near),
          omega (arith, many, c.valid-index.ensures),
        ),
      ),
    )

pub join_up_to-requires : goal.join_up_to-requires
join_up_to-requires g c =
    let pages = g.row.PAGES in
    let span = g.row.SPAN in
    let of = c.requires.of in
    let kept = c.args.self.now.kept in
    let many = of.ends.many in
    let all = joined_by pages span c.args.inputs.now.image c.args.inputs.now.log kept.rows kept.ends (take c.valid-index.result kept.ends ++ c.args.end.value ∷ drop (suc c.valid-index.result) kept.ends) c.args.end.value
    kept.valid c.valid-index.result c.joined_by-count.result c.args.self.now.rejoin_from c.valid-index.ensures
    of.ends (put kept.ends c.valid-index.result c.args.end.value (omega (arith, many, c.valid-index.ensures))) c.requires.end of.joined c.requires.there c.joined_by-count.ensures.met of.rejoin_from in (
      omega arith,
      (
        λ i below.
            subst (λ (k : Kept). IsSome (first_at k.rows i)) (sym c.set_end.ensures) (is_there pages span (first_at kept.rows i) _ _ (all.1 i below).near),
        omega (arith, c.joined_by-count.ensures.more, c.valid-index.ensures, ap (λ (k : Kept). k.valid) c.set_end.ensures),
      ),
    )

pub returns-clause-of : goal.returns-clause-of
returns-clause-of g c =
    let pages = g.row.PAGES in
    let span = g.row.SPAN in
    let image = c.args.inputs.now.image in
    let log = c.args.inputs.now.log in
    let of = c.requires.of in
    let kept = c.args.self.now.kept in
    let end = c.args.end.value in
    let n = c.valid-index.result in
    let now = c.join_up_to.new.kept in
    let count : now.valid ≡ c.joined_by-count.result = ap (λ (k : Kept). k.valid) c.join_up_to.ensures in
    let spans : now.rows ≡ kept.rows = ap (λ (k : Kept). k.rows) (c.join_up_to.ensures) ∙ ap (λ (k : Kept). k.rows) c.set_end.ensures in
    let new : List State = take n kept.ends ++ end ∷ drop (suc n) kept.ends in
    let ends_are : now.ends ≡ new = ap (λ (k : Kept). k.ends) (c.join_up_to.ensures) ∙ ap (λ (k : Kept). k.ends) c.set_end.ensures in
    let many = of.ends.many in
    let is_put = put kept.ends n end (omega (arith, many, c.valid-index.ensures)) in
    let all = joined_by pages span image log kept.rows kept.ends new end kept.valid n c.joined_by-count.result c.args.self.now.rejoin_from c.valid-index.ensures
    of.ends is_put c.requires.end of.joined c.requires.there c.joined_by-count.ensures.met of.rejoin_from in record {
      sizes = of.sizes;
      start = of.start;
      joined = λ i below.
          subst (λ (o : Option Span). IsJoined pages span i o (span_of pages span image log i)) (sym (ap (λ (s : List (List Span)). first_at s i) spans))
          (all.1 i (subst (λ (n : ℕ). i < n) count below));
      ends = subst (λ (n : ℕ). AreEnds pages span image log n now.ends) (sym count) (subst (λ (ends : List State). AreEnds pages span image log c.joined_by-count.result ends) (sym ends_are) all.0);
      rejoin_from = λ index first past.
          subst (λ (ends : List State). GoesOn pages span log now.rows ends index) (sym ends_are)
          (goes_on_put pages span log kept.rows now.rows kept.ends new end n index spans is_put (omega (arith, count, c.joined_by-count.ensures.more, past))
          (of.rejoin_from index first (omega (arith, count, c.joined_by-count.ensures.more, c.valid-index.ensures, past))));
      known = subst (λ (s : List (List Span)). IsKnown span s (λ n. state_at pages image log (n * span)) c.args.self.now.frontier) (sym spans) of.known;
      agrees = subst (λ (r : Index). Agrees pages span r now.rows) (sym c.sum_up_to.ensures)
          (subst (λ (s : List (List Span)). Agrees pages span c.args.self.now.reports s) (sym spans) of.agrees);
    }
