use Rattle.std.proofs.Common.{ℕ, ◌+◌, ◌*◌, IfSome, Option, slice_get, ap, sym, ◌∙◌, arith, subst}
use Rattle.std.proofs.lemmas.Option.{none-some}
use Rattle.r3k_machine.specs.Run.{state_at}
use Rattle.r3k_live.specs.Living.{Living}
use Rattle.checkpoints.specs.Kept.{Kept}
use Rattle.present_run.specs.Index.{Agrees}
use Rattle.present_run.specs.Runs.{IsKnownAfter}
use Rattle.present_run.proofs.Spans.{at_reset}
use Rattle.present_run.proofs.runs.Runs.boot.Goals as goal
use Rattle.present_run.proofs.Rejoining.{no_ends}

pub returns-clause-of : goal.returns-clause-of
returns-clause-of g c =
    let pages = g.row.PAGES in
    let span = g.row.SPAN in
    let image = c.args.inputs.now.image in
    let log = c.args.inputs.now.log in record {
      machine = record {
        stands = ap (λ (l : Living). l.state) (c.live.view_is ∙ (c.keep.ensures.same ∙ c.in_ok-live.ensures {u = tt})) ∙ sym (at_reset pages image log);
        recorded = tt;
      };
      records = record {
        sizes = c.requires.sizes;
        start = (c.in_ok-reset.ensures {u = tt}).kept ∙ ap (λ (l : Living). l.state) (c.in_ok-live.ensures {u = tt});
        joined = λ index within. absurd (let e : ⊥ = omega (arith, ap (λ (k : Kept). k.valid) c.new-3.ensures, within) in e);
        ends = no_ends pages span image log _ _ (ap (λ (k : Kept). k.valid) c.new-3.ensures) (ap (λ (k : Kept). k.ends) c.new-3.ensures);
        rejoin_from = λ index first past start end is. absurd (none-some start (sym (ap (λ (k : Kept). slice_get k.ends index) c.new-3.ensures) ∙ is));
        known = subst (λ (o : Option ℕ). IfSome o (λ n. IsKnownAfter span c.new-3.result.rows n (state_at pages image log ((n + 1) * span)) c.in_ok-new-2.field-0)) (sym (c.in_ok-new-2.ensures {u = tt})) tt;
        agrees = subst (λ (k : Kept). Agrees pages span c.new-4.result k.rows) (sym c.new-3.ensures) (c.new-4.ensures.agrees pages span);
      };
    }
