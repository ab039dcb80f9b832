use Rattle.std.proofs.Common.{[], List, ℕ, Result, Some, refl, sym, subst, ◌∙◌, rules}
use Rattle.std.specs.String.{string_bytes}
use Rattle.wb_io.proofs.CallLemmas.{Writes-nil}
use Rattle.wb_options.specs.Fault.{IsNumbered, line_of}
use Rattle.wb_options.specs.declared.fault.RunFault.{RunFault}
use Rattle.workbench.specs.Program.{Reports}
use Rattle.workbench.proofs.Reporting.{ReportsBoth, fault_reported, reported_text}
use Rattle.workbench.proofs.program.report.Goals as goal

pub returns-in-Ok : goal.returns-in-Ok
returns-in-Ok g c =
    let both : ReportsBoth c.args.outcome.now [] [] = subst (λ (r : Result (Unit {0}) RunFault). ReportsBoth r [] []) (sym c.in-Ok.is) (refl, refl) in
    ([], [], Writes-nil (g.W.Sink.writes c.args.output.now) (g.W.Sink.written c.args.output.now), Writes-nil (g.E.Sink.writes c.args.errors.now) (g.E.Sink.written c.args.errors.now), both.0, both.1)

pub returns-in-Err-Usage : goal.returns-in-Err-Usage
returns-in-Err-Usage g c =
    let h = c.write_whole-in-Err-Usage.ensures in
    let text : Reports (Some (string_bytes c.in-Err-Usage.text)) h.0 =
    subst (λ (t : List ℕ). Reports (Some t) h.0) c.as_bytes-in-Err-Usage.ensures.value (reported_text c.write_whole-in-Err-Usage.result _ h.0 h.2) in
    let both : ReportsBoth c.args.outcome.now [] h.0 = (search rules, search (rules, text)) in
    ([], h.0, Writes-nil (g.W.Sink.writes c.args.output.now) (g.W.Sink.written c.args.output.now), h.1, both.0, both.1)

pub returns-in-Err : goal.returns-in-Err
returns-in-Err g c =
    let h = c.write_whole-in-Err.ensures in
    let text : Reports (Some (line_of c.in-Err.fault)) h.0 =
    subst (λ (t : List ℕ). Reports (Some t) h.0) (c.as_slice.ensures.value ∙ c.fault_line-line.ensures) (reported_text c.write_whole-in-Err.result _ h.0 h.2) in
    let numbered : IsNumbered c.in-Err.fault = search rules in
    let both : ReportsBoth c.args.outcome.now [] h.0 = fault_reported c.args.outcome.now c.in-Err.fault h.0 c.in-Err.is numbered text in
    ([], h.0, Writes-nil (g.W.Sink.writes c.args.output.now) (g.W.Sink.written c.args.output.now), h.1, both.0, both.1)
