use Rattle.std.proofs.Common.{◌≡◌, ◌∷◌, [], ◌+◌, ℕ, length, ap, ◌∙◌, arith}
use Rattle.console_index.specs.Counts.{count_at}
use Rattle.console_index.specs.Totals.{IsIndex, counts_of}
use Rattle.console_index.proofs.Spans.{extended}
use Rattle.console_index.proofs.index.ConsoleIndex.extend_to.Goals as goal

extended_by : (c : goal.After-resize) → IsIndex c.self.inside.summed c.resize.new.self.items × ((i line : ℕ) → count_at (counts_of c.resize.new.self.items) line i ≡ count_at (counts_of c.self.inside.spans.items) line i)
extended_by c =
    let long : c.self.inside.spans.len ≡ length c.self.inside.spans.items = omega arith in
    extended _ c.self.inside.spans.items c.resize.new.self.items (0 ∷ 0 ∷ 0 ∷ 0 ∷ []) c.self.inside.summed c.self.inside.spans.len (c.args.index + 1) long (omega arith) (omega arith) c.resize.ensures.items c.self.invariant

pub invariant_of-self : goal.invariant_of-self
invariant_of-self c = (extended_by c).0

pub returns-clause-counts : goal.returns-clause-counts
returns-clause-counts c = λ i line. (extended_by c).1 i line ∙ ap (λ counts. count_at counts line i) c.self.view_is
