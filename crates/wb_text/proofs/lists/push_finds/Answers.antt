-- One step more, and then none.
use Rattle.std.proofs.Common.{arith, ap, rules, sym, ◌∙◌, ◌++◌, append-nil}
use Rattle.wb_text.specs.Lists.{sender_text}
use Rattle.wb_text.proofs.Shown.{numbered-end, numbered-on}
use Rattle.wb_text.proofs.lists.push_finds.Goals as goal

pub loop-step-preserved : goal.loop-step-preserved
loop-step-preserved c = record {
  items =
      rw c.push_sender.ensures.items
      (numbered-on sender_text c.loop-step.place c.args.steps.now c.loop-step.step-index c.loop-step.text.items _ _ (omega arith) (search rules) c.loop-step.invariant.items);
  room = omega arith;
}

pub returns : goal.returns
returns c =
    let shown = c.loop-step.text.items in
    let none = numbered-end sender_text c.loop-step.place c.args.steps.now c.loop-step.step-index (omega arith) in
    sym (append-nil shown) ∙ (ap (λ t. shown ++ t) (sym none) ∙ c.loop-step.invariant.items)
