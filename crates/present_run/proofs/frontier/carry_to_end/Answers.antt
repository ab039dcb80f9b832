use Rattle.std.proofs.Common.{ℕ, List, length, sym, ap, ◌∙◌}
use Rattle.present_run.proofs.Carry.{after_carried, end_carried, exactly, loses_by, start_carried}
use Rattle.std.proofs.lemmas.Result.{IfOk-weaker}
use Rattle.present_run.proofs.frontier.carry_to_end.Goals as goal

pub returns-clause-long : goal.returns-clause-long
returns-clause-long g c =
    ap (λ (words : List ℕ). length words) (sym c.memory-memory.ensures.words) ∙ (c.memory-memory.ensures.whole ∙ sym c.start-kept.ensures.whole)

pub returns-clause-end : goal.returns-clause-end
returns-clause-end g c =
    let is = end_carried g.row.PAGES g.row.SPAN c.args.fact.now c.args.start.now c.args.differing.now c.remove.new.self c.requires.near
    (loses_by c.args.differing.now _ _ _ c.touched.ensures.pages c.remove.ensures) c.requires.same (returns-clause-long g c) in
    IfOk-weaker c.end_with.result _ _ (λ end at. at ∙ sym is) c.end_with.ensures

pub returns-clause-start : goal.returns-clause-start
returns-clause-start g c =
    start_carried g.row.PAGES g.row.SPAN c.args.fact.now c.args.start.now c.args.fact.now.events c.args.differing.now c.remove.new.self c.requires.near
    (loses_by c.args.differing.now _ _ _ c.touched.ensures.pages c.remove.ensures) c.requires.same

pub returns-clause-after : goal.returns-clause-after
returns-clause-after g c =
    after_carried g.row.PAGES g.row.SPAN c.args.fact.now c.args.start.now c.args.differing.now c.remove.new.self c.requires.near
    (loses_by c.args.differing.now _ _ _ c.touched.ensures.pages c.remove.ensures) c.requires.same (returns-clause-long g c)

pub returns-clause-exact : goal.returns-clause-exact
returns-clause-exact g c = λ none.
    exactly c.args.fact.now.start c.args.start.now c.remove.new.self (returns-clause-start g c) none (returns-clause-long g c) c.requires.near.same_core
