use Rattle.std.proofs.Common.{rules, ◌≡◌, ◌<◌, ◌≤◌, ℕ, List, [], length, get_or, set, slice_index, sym, ap, ◌∙◌, arith}
use Rattle.std.proofs.lemmas.Bool.Decides.{Decides-eqb}
use Rattle.std.proofs.lemmas.List.{get_or-map, get_or-set_same, length-map, length-set, map-set}
use Rattle.std.proofs.lemmas.Slice.Eq.{slice_eq-Decides}
use Rattle.console_index.specs.declared.span.Span.{Span}
use Rattle.console_index.specs.Counts.{count_at}
use Rattle.console_index.proofs.Spans.{kept, no_span, put_small, put_totals}
use Rattle.console_index.proofs.index.ConsoleIndex.replace.Goals as goal

pub returns-then-eq-clause-there : goal.returns-then-eq-clause-there
returns-then-eq-clause-there c =
    let spans = c.self.inside.spans.items in
    let counts = λ (span : Span). span.counts in
    let within : c.args.index < length spans = omega (arith, ap length c.self.view_is, length-map spans counts, c.in_ok-extend_to.ensures.held) in
    let same : c.index.result.now.counts ≡ c.args.counts = (slice_eq-Decides Decides-eqb _ _ c.eq.result c.eq.ensures).0 c.if-eq.true in
    ap (λ (all : List (List ℕ)). get_or all c.args.index []) (sym c.self.view_is)
    ∙ (get_or-map counts spans c.args.index c.index.result.now [] within ∙ (ap counts (sym c.index.ensures) ∙ same))

-- the span as it is put
abbrev put : goal.After-self-2-1 → Span
put c = record { counts = c.args.counts; totals = c.index_mut.result.now.totals }

within : (c : goal.After-self-2-1) → c.args.index < length c.self.inside.spans.items
within c = omega (arith, ap length c.self.view_is, length-map c.self.inside.spans.items (λ (span : Span). span.counts), c.in_ok-extend_to.ensures.held)

pub invariant_of-self : goal.invariant_of-self
invariant_of-self c =
    let spans = c.self.inside.spans.items in
    let small : (line : ℕ) → line ≤ 3 → slice_index c.args.counts line ≤ 1048576 = λ line l. search rules in record {
      few = omega (arith, c.self.invariant.few, length-set {A = Span});
      small = put_small spans (set spans c.args.index (put c)) c.args.index c.args.counts (within c) small c.self.invariant.small
          (map-set (λ (span : Span). span.counts) spans c.args.index (put c));
      within = omega (arith, c.self.invariant.within, length-set {A = Span});
      totals = put_totals spans c.min-self-inside.result c.args.index (put c) (omega arith) (λ k below. c.self.invariant.totals k (omega (arith, below)));
    }

pub returns-clause-there : goal.returns-clause-there
returns-clause-there c =
    let spans = c.self.inside.spans.items in
    let counts = λ (span : Span). span.counts in
    let long : c.args.index < length (set spans c.args.index (put c)) = omega (arith, within c, length-set {A = Span}) in
    get_or-map counts (set spans c.args.index (put c)) c.args.index no_span [] long ∙ ap counts (get_or-set_same spans c.args.index (put c) no_span (within c))

pub returns-clause-others : goal.returns-clause-others
returns-clause-others c = λ i other line.
    kept (λ span. span.counts) c.self.inside.spans.items c.args.index i line (put c) other
    ∙ (ap (λ (all : List (List ℕ)). count_at all line i) c.self.view_is ∙ c.extend_to.ensures.counts i line)
