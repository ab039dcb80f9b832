use Rattle.std.proofs.Common.{ap, refl, ◌∙◌}
use Rattle.r3k_live.specs.Record.{sent_from}
use Rattle.present_run.specs.Reuse.{span_of}
use Rattle.present_run.proofs.Near.{same_steps}
use Rattle.present_run.proofs.Reports.{span_steps}
use Rattle.present_run.proofs.present.Present.sent_in.Goals as goal

pub returns-in-Some : goal.returns-in-Some
returns-in-Some g c =
    let pages = g.row.PAGES in
    let span = g.row.SPAN in
    let image = c.args.self.now.inputs.image in
    let log = c.args.self.now.inputs.log in
    let index = c.args.index in
    let joined = c.args.self.now.of.records.joined index c.requires.joined in
    let is = (c.in-Some.ensures {u = tt}).fact in
    c.sent.ensures
    ∙ ap (sent_from 0) (same_steps pages span index _ c.in-Some.fact.now (span_of pages span image log index) is refl joined ∙ span_steps pages span image log index)
