use Rattle.std.proofs.Common.{ℕ, Result, Ok, slice_index, sym, ap, ◌∙◌, arith}
use Rattle.r3k_machine.specs.Run.{state_at}
use Rattle.present_run.specs.TimelineView.{TimelineView}
use Rattle.refusal.specs.declared.fault.Fault.{Fault}
use Rattle.timeline.proofs.Plain.{word_given}
use Rattle.timeline.proofs.timeline.Timeline.word_at.Goals as goal

pub returns-clause-word : goal.returns-clause-word
returns-clause-word g c =
    word_given g.row.PAGES c.args.self.now.history c.args.position c.args.address c.in-Some.place (omega arith) (omega arith) (sym c.place_of.ensures ∙ c.in-Some.is)
    ∙ ap (λ (word : ℕ). let r : Result ℕ Fault = Ok word in r) (sym ((c.in_ok-word_at.ensures {u = tt}).word
    ∙ ap (λ (h : TimelineView). slice_index (state_at g.row.PAGES h.history.image h.history.log c.args.position).words c.in-Some.place) c.self.view_is))
