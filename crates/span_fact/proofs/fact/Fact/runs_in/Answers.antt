use Rattle.std.proofs.Common.{◌≡◌, ◌↔◌, ℕ, Bool, List, IsTrue, sym, ap, subst, ◌∙◌}
use Rattle.r3k_pages.specs.Pages.{holds}
use Rattle.span_fact.specs.Span.{Span, SpanRunsIn}
use Rattle.span_fact.proofs.fact.Fact.runs_in.Goals as goal

pub returns : goal.returns
returns g c =
    let found : c.contains.result ≡ holds c.self.inside.code_pages.items c.args.page =
    c.contains.ensures.value ∙ ap (λ (set : List ℕ). holds set c.args.page) c.deref.ensures.value in
    subst (λ (s : Span). IsTrue c.contains.result ↔ SpanRunsIn g.row.PAGES g.row.SPAN s c.args.page) c.self.view_is
    (subst (λ (b : Bool). IsTrue b ↔ SpanRunsIn g.row.PAGES g.row.SPAN (record { index = c.self.inside.index; start = c.self.inside.start.value; events = c.self.inside.events.items }) c.args.page) (sym found)
    (c.self.invariant.stands c.args.page))
