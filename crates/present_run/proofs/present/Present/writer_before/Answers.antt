use Rattle.std.proofs.Common.{Some, None, arith, sym, ◌∙◌}
use Rattle.present_run.proofs.Joined.{writer_is}
use Rattle.present_run.proofs.present.Present.writer_before.Goals as goal

pub returns-in_err-index : goal.returns-in_err-index
returns-in_err-index g c =
    c.from_residual.ensures
    ∙ sym (writer_is g.row.PAGES g.row.SPAN c.args.self.now.inputs.image c.args.self.now.inputs.log c.args.self.now.runs.records.kept.rows c.args.count c.args.target None
    (λ i below. c.args.self.now.of.records.joined i (omega (arith, below, c.requires.joined))) (c.in_err-index.ensures {u = tt}))

pub returns : goal.returns
returns g c =
    sym (writer_is g.row.PAGES g.row.SPAN c.args.self.now.inputs.image c.args.self.now.inputs.log c.args.self.now.runs.records.kept.rows c.args.count c.args.target
    (Some (c.in_ok-index.index, c.in_ok-index.step)) (λ i below. c.args.self.now.of.records.joined i (omega (arith, below, c.requires.joined))) (c.in_ok-index.ensures {u = tt}))
