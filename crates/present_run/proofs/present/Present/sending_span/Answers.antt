use Rattle.std.proofs.Common.{arith}
use Rattle.present_run.proofs.Joined.{sender_from, sender_to}
use Rattle.present_run.proofs.present.Present.sending_span.Goals as goal

pub returns-clause-within : goal.returns-clause-within
returns-clause-within g c = (c.find.ensures g.row.PAGES g.row.SPAN c.args.self.now.runs.records.kept.rows c.args.self.now.of.records.agrees).within

pub returns-clause-from : goal.returns-clause-from
returns-clause-from g c =
    sender_from g.row.PAGES g.row.SPAN c.args.self.now.inputs.image c.args.self.now.inputs.log c.args.self.now.runs.records.kept.rows c.args.line c.args.place c.args.spans c.find.result
    (λ i below. c.args.self.now.of.records.joined i (omega (arith, below, c.requires.joined))) (c.find.ensures g.row.PAGES g.row.SPAN c.args.self.now.runs.records.kept.rows c.args.self.now.of.records.agrees)

pub returns-clause-to : goal.returns-clause-to
returns-clause-to g c =
    sender_to g.row.PAGES g.row.SPAN c.args.self.now.inputs.image c.args.self.now.inputs.log c.args.self.now.runs.records.kept.rows c.args.line c.args.place c.args.spans c.find.result
    (λ i below. c.args.self.now.of.records.joined i (omega (arith, below, c.requires.joined))) (c.find.ensures g.row.PAGES g.row.SPAN c.args.self.now.runs.records.kept.rows c.args.self.now.of.records.agrees)
