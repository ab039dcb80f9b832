use Rattle.std.proofs.Common.{ℕ, List, Result, Ok, sym, ap, ◌∙◌, arith}
use Rattle.std.proofs.Math.Path.{ap₂}
use Rattle.r3k_machine.specs.Run.{console_of, trace_at}
use Rattle.refusal.specs.declared.fault.Fault.{Fault}
use Rattle.present_run.specs.Console.{shown_of}
use Rattle.present_run.specs.History.{History}
use Rattle.present_run.specs.TimelineView.{TimelineView}
use Rattle.timeline.proofs.Plain.{console_given}
use Rattle.timeline.proofs.timeline.Timeline.console_at.Goals as goal

pub returns-clause-shown : goal.returns-clause-shown
returns-clause-shown g c =
    let position = c.args.position in
    let shown = (rw c.new.ensures at (c.in_ok-shown.ensures {u = tt}).shown) in
    let answer : ℕ → List ℕ → Result (ℕ × List ℕ) Fault = λ total bytes. Ok (total, bytes) in
    console_given g.row.PAGES c.args.self.now.history position c.args.line c.args.from c.args.count (omega arith) (omega arith) (omega arith) (omega arith)
    ∙ sym (ap₂ answer shown.0 shown.1
    ∙ ap (λ (h : History).
    let part = shown_of c.args.from c.args.count (console_of c.args.line (trace_at g.row.PAGES h.image h.log position)) in
    answer part.0 part.1) (c.console.ensures.spends.history ∙ ap (λ (h : TimelineView). h.history) c.self.view_is))
