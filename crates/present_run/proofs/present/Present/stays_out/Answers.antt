use Rattle.std.proofs.Common.{◌<◌, Bool, true, false, not, IsTrue, refl, arith}
use Rattle.std.proofs.lemmas.Bool.{false≢true}
use Rattle.checkpoints.specs.Kept.{first_at}
use Rattle.present_run.proofs.StaysOut.{stands_too}
use Rattle.present_run.proofs.present.Present.stays_out.Goals as goal

not_both : (b : Bool) → IsTrue (not b) → IsTrue b → ⊥
not_both true off on = false≢true off
not_both false off on = false≢true on

not_of : (b : Bool) → (IsTrue b → ⊥) → IsTrue (not b)
not_of true none = absurd (none refl)
not_of false none = refl

pub returns-in-Some : goal.returns-in-Some
returns-in-Some g c =
    let index = c.args.index in
    let below : index < c.args.self.now.runs.records.kept.valid = omega (arith, c.if-index-valid.true, c.valid.ensures) in
    let both = stands_too g.row.PAGES g.row.SPAN index c.args.self.now.inputs.image c.args.self.now.inputs.log (first_at c.args.self.now.runs.records.kept.rows index)
    c.in-Some.fact.now c.args.page (c.in-Some.ensures {u = tt}).fact (c.args.self.now.of.records.joined index below) in (
      λ off. (below, λ stands. not_both c.runs_in.result off (c.runs_in.ensures.1 (both.1 stands))),
      λ out. not_of c.runs_in.result (λ on. out.1 (both.0 (c.runs_in.ensures.0 on))),
    )
