use Rattle.std.proofs.Common.{arith, ◌∙◌}
use Rattle.present_run.proofs.Joined.{count_is}
use Rattle.present_run.proofs.present.Present.count_of.Goals as goal

pub returns : goal.returns
returns g c =
    c.count.ensures g.row.PAGES g.row.SPAN c.args.self.now.runs.records.kept.rows c.args.self.now.of.records.agrees
    ∙ count_is g.row.PAGES g.row.SPAN c.args.self.now.inputs.image c.args.self.now.inputs.log c.args.self.now.runs.records.kept.rows c.args.line c.args.spans
    (λ i below. c.args.self.now.of.records.joined i (omega (arith, below, c.requires.joined)))
