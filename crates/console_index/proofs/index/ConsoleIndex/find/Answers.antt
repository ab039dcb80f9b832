use Rattle.std.proofs.Common.{◌≡◌, ◌≤◌, ℕ, List, [], length, slice_index, take, sym, ap, ◌∙◌, arith}
use Rattle.std.proofs.lemmas.List.{get_or-map, length-take}
use Rattle.console_index.specs.Counts.{count_at, total}
use Rattle.console_index.specs.Totals.{counts_of}
use Rattle.console_index.specs.declared.span.Span.{Span}
use Rattle.console_index.proofs.Spans.{front, total_front}
use Rattle.console_index.proofs.Sums.{total_next}
use Rattle.console_index.proofs.index.ConsoleIndex.find.Goals as goal

-- the spans that lie before the place, among those that have totals
before : (spans items : List Span) (counts : List (List ℕ)) (summed line first place : ℕ) → spans ≡ items → counts_of items ≡ counts
    → first ≤ length (take summed spans) → total (counts_of (take summed spans)) line first ≤ place → total counts line first ≤ place
before spans items counts summed line first place is seen within below =
    omega (
      arith,
      below,
      total_front spans summed line first (omega (arith, within, length-take summed spans)),
      ap (λ spans. total (counts_of spans) line first) is,
      ap (λ counts. total counts line first) seen,
    )

pub whole_before-first-requires : goal.whole_before-first-requires
whole_before-first-requires c = rw c.deref.ensures.value (front c.self.inside.spans.items c.self.inside.summed c.self.invariant.within c.self.invariant.totals)

pub overflow_sub-left : goal.overflow_sub-left
overflow_sub-left c =
    omega (
      arith,
      c.count.ensures,
      before c.deref.result.now c.self.inside.spans.items c.args.self.now c.self.inside.summed c.args.line c.whole_before-first.result c.args.place
          c.deref.ensures.value c.self.view_is c.whole_before-first.ensures.passed c.whole_before-first.ensures.before,
    )

pub loop-span-init : goal.loop-span-init
loop-span-init c =
    omega (
      arith,
      c.count.ensures,
      before c.deref.result.now c.self.inside.spans.items c.args.self.now c.self.inside.summed c.args.line c.whole_before-first.result c.args.place
          c.deref.ensures.value c.self.view_is c.whole_before-first.ensures.passed c.whole_before-first.ensures.before,
    )

pub loop-span-preserved : goal.loop-span-preserved
loop-span-preserved c =
    let line = c.args.line in
    let at = c.loop-span.span in
    let spans = c.self.inside.spans.items in
    let counts = λ (span : Span). span.counts in
    let here = get_or-map counts spans at c.index.result.now [] (omega arith) ∙ ap counts (sym c.index.ensures) in
    let count : c.from-count.result ≡ count_at c.args.self.now line at =
    c.from-count.ensures
    ∙ (ap (λ n. slice_index c.index.result.now.counts n) c.index-in-loop-span.ensures.value
    ∙ (ap (λ (x : List ℕ). slice_index x line) (sym here) ∙ ap (λ all. count_at all line at) c.self.view_is)) in
    omega (arith, count, c.loop-span.invariant, c.if-left-count.false, total_next c.args.self.now line at)
