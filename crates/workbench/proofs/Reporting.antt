-- What the program reports at its end.
use Rattle.std.proofs.Common.{◌≡◌, inl, inr, ℕ, List, [], Some, Result, Ok, Err, MatchResult, refl, sym, subst}
use Rattle.wb_io.specs.Calls.{Call, TakesAll, TakesFront}
use Rattle.wb_options.specs.Fault.{IsNumbered, line_of}
use Rattle.wb_options.specs.declared.fault.RunFault.{RunFault}
use Rattle.wb_options.specs.declared.fault.RunFault.TheVariants.{Memory, BadImage, BadLog, BadSource, ReadFault, WriteFault, Usage, Help}
use Rattle.workbench.specs.Program.{Reports, error_text, help_text}

-- a text that was written
pub reported_text : {T E : Type 0} (r : Result T E) (text : List ℕ) (calls : List Call) → MatchResult r (λ _. TakesAll text calls) (λ _. TakesFront text calls) → Reports (Some text) calls
reported_text (Ok done) text calls h = inl h
reported_text (Err error) text calls h = inr h

-- both reports of an outcome
abbrev pub ReportsBoth : Result (Unit {0}) RunFault → (helped reports : List Call) → Type 0
ReportsBoth r helped reports = Reports (help_text r) helped × Reports (error_text r) reports

pub fault_reported : (r : Result (Unit {0}) RunFault) (fault : RunFault) (reports : List Call) → r ≡ Err fault → IsNumbered fault → Reports (Some (line_of fault)) reports → ReportsBoth r [] reports
fault_reported r fault reports e n h = subst (λ (z : Result (Unit {0}) RunFault). ReportsBoth z [] reports) (sym e) (by_fault fault n h)
  where
    by_fault : (fault : RunFault) → IsNumbered fault → Reports (Some (line_of fault)) reports → ReportsBoth (Err fault) [] reports
    by_fault Memory n h = (refl, h)
    by_fault (BadImage kind) n h = (refl, h)
    by_fault (BadLog kind) n h = (refl, h)
    by_fault (BadSource line kind) n h = (refl, h)
    by_fault ReadFault n h = (refl, h)
    by_fault WriteFault n h = (refl, h)
    by_fault (Usage text) n h = absurd n
    by_fault (Help text) n h = absurd n
