use Rattle.std.proofs.Common.{◌≡◌, ℕ, List, [], ◌∷◌, length, Ok, refl, sym, ap, ◌∙◌, arith}
use Rattle.std.proofs.lemmas.Bool.{eqb-true, eqb-false}
use Rattle.input_log.specs.Event.{LogEvent}
use Rattle.input_log.specs.Reading.{log_at}
use Rattle.wb_options.specs.declared.fault.RunFault.TheVariants.{BadLog}
use Rattle.workbench.specs.Serve.{log_of, with_fault}
use Rattle.workbench.proofs.serving.log_of.Goals as goal

log_of-none : (bytes : List ℕ) → length bytes ≡ 0 → log_of bytes ≡ Ok []
log_of-none [] none = refl
log_of-none (byte ∷ bytes) none = absurd (omega arith)

log_of-some : (bytes : List ℕ) → (length bytes ≡ 0 → ⊥) → log_of bytes ≡ with_fault (λ kind. BadLog kind) (log_at bytes)
log_of-some [] some = absurd (some refl)
log_of-some (byte ∷ bytes) some = refl

pub returns-then-is_empty-clause-made : goal.returns-then-is_empty-clause-made
returns-then-is_empty-clause-made c =
    log_of-none c.args.bytes.now (eqb-true (length c.args.bytes.now) 0 (sym c.is_empty.ensures ∙ c.if-is_empty.true))
    ∙ ap (λ (log : List LogEvent). Ok log) (sym c.new.ensures)

pub returns-clause-made : goal.returns-clause-made
returns-clause-made c =
    log_of-some c.args.bytes.now (eqb-false (length c.args.bytes.now) 0 (sym c.is_empty.ensures ∙ c.if-is_empty.false))
    ∙ ap (with_fault (λ kind. BadLog kind)) c.in_ok-read_log.ensures.exact
