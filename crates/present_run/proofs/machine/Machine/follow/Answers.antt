use Rattle.std.proofs.Common.{◌≡◌, ℕ, ◌+◌, ◌++◌, [], ◌∷◌, List, Some, sym, ap, ◌∙◌, arith, refl}
use Rattle.r3k_machine.specs.declared.traced.Traced.{Traced}
use Rattle.r3k_machine.specs.Traced.{traces_at}
use Rattle.present_run.proofs.Spans.{traces_more}
use Rattle.present_run.proofs.machine.Machine.follow.Goals as goal

pub loop-made-init : goal.loop-made-init
unfolding traces_at
loop-made-init g c = record {
  of = c.requires.of;
  stands = c.requires.stands ∙ ap (λ (n : ℕ). Some n) (let e : c.args.position ≡ c.args.position + 0 = omega arith in e);
  traced = c.new-steps.ensures;
  few = rw c.new-steps.ensures refl;
  count = omega arith;
  least = omega arith;
}

pub loop-made-preserved : goal.loop-made-preserved
loop-made-preserved g c =
    let pages = g.row.PAGES in
    let image = c.args.inputs.now.image in
    let log = c.args.inputs.now.log in
    let made = c.loop-made.made in
    record {
      of = c.follow_one.ensures.of;
      stands = c.follow_one.ensures.stands ∙ ap (λ (n : ℕ). Some n) (let e : c.args.position + made + 1 ≡ c.args.position + (made + 1) = omega arith in e);
      traced =
          c.push.ensures.items
          ∙ (ap (λ (steps : List Traced). steps ++ c.follow_one.result ∷ []) c.loop-made.invariant.traced
          ∙ (ap (λ (t : Traced). traces_at pages image log c.args.position made ++ t ∷ []) c.follow_one.ensures.traced
          ∙ sym (traces_more pages image log c.args.position made)));
      few = omega (arith, c.push.ensures.len, c.loop-made.invariant.few);
      count = omega (arith, c.follow_one.ensures.count, c.loop-made.invariant.count);
      least = omega (arith, c.follow_one.ensures.least, c.loop-made.invariant.least);
    }
