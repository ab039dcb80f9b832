use Rattle.std.proofs.Common.{◌≡◌, ℕ, ◌*◌, ap, sym, ◌∙◌, arith}
use Rattle.r3k_machine.specs.Run.{state_at}
use Rattle.present_run.proofs.Spans.{at_reset}
use Rattle.present_run.proofs.records.SpanRecords.start_of.Goals as goal

pub returns-then-index-eq0 : goal.returns-then-index-eq0
returns-then-index-eq0 g c =
    c.requires.of.start
    ∙ (sym (at_reset g.row.PAGES c.args.inputs.now.image c.args.inputs.now.log)
    ∙ ap (state_at g.row.PAGES c.args.inputs.now.image c.args.inputs.now.log)
    (let e : 0 ≡ 0 * g.row.SPAN = omega arith in e ∙ ap (λ (n : ℕ). n * g.row.SPAN) (sym c.if-index-eq0.true)))
