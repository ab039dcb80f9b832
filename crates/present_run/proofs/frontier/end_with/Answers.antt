use Rattle.std.proofs.Common.{length, sym, ap, ◌∙◌}
use Rattle.std.proofs.lemmas.Bool.{eqb-true}
use Rattle.r3k_machine.specs.State.{State}
use Rattle.span_fact.specs.Span.{end_of}
use Rattle.present_run.proofs.Carry.{empty, overlaid_none}
use Rattle.present_run.proofs.Spans.{copied}
use Rattle.present_run.proofs.frontier.end_with.Goals as goal

pub returns-then-is_empty : goal.returns-then-is_empty
returns-then-is_empty g c =
    let end : State = end_of g.row.PAGES g.row.SPAN c.args.fact.now in
    let none = empty c.args.pages.now (ap length (sym c.pages.ensures.pages) ∙ eqb-true (length c.pages.result.now) 0 (sym c.is_empty.ensures ∙ c.if-is_empty.true)) in
    copied _ _ _ c.clone.result c.clone.ensures.cases
    (λ copy same. same ∙ (c.end.ensures ∙ ap (λ words. let s : State = record end { words = words } in s) (sym (overlaid_none c.args.pages.now end.words c.args.other.now.words none))))
