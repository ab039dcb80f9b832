-- What is answered where something is refused.
use Rattle.std.proofs.Common.{◌≡◌, ◌⊎◌, Bool, true, false, Result, Ok, Err, inl, inr, refl, sym, ap}
use Rattle.refusal.specs.Given.{GivesFault}
use Rattle.refusal.specs.declared.fault.Fault.{Fault}
use Rattle.refusal.specs.declared.fault.Fault.TheVariants.{Memory, Syntax, Range, NoEvent, Unaligned, NotMemory, TooFar, NotFound}
use Rattle.wb_text.specs.declared.reply.Reply.{Reply}
use Rattle.wb_text.specs.declared.reply.Reply.TheVariants.{Fault as Refused}
use Rattle.wb_session.specs.Session.{Triple, answer, comes_before_memory, shows}

-- a query is refused by its plain refusal, or for want of memory where that may come
pub shows_refused : {A : Type 0} (s : Triple) (show : A → Reply) (plain : Result A Fault) (fault : Fault)
    → ((shown : A) → comes_before_memory (show shown) ≡ false) → GivesFault plain fault
    → (answer s (Refused fault) ≡ shows s show plain)
    ⊎ ((true ≡ true) × (comes_before_memory (shows s show plain).reply ≡ false) × (s ≡ s) × (Refused fault ≡ Refused Memory))
shows_refused s show plain fault none (inl same) = inl (ap (shows s show) (sym same))
shows_refused s show (Ok shown) fault none (inr lacks) = inr (refl, none shown, refl, ap (λ (f : Fault). Refused f) lacks.0)
shows_refused s show (Err Memory) fault none (inr lacks) = inr (refl, refl, refl, ap (λ (f : Fault). Refused f) lacks.0)
shows_refused s show (Err NotFound) fault none (inr lacks) = inr (refl, refl, refl, ap (λ (f : Fault). Refused f) lacks.0)
shows_refused s show (Err Syntax) fault none (inr lacks) = absurd (lacks.1 tt)
shows_refused s show (Err Range) fault none (inr lacks) = absurd (lacks.1 tt)
shows_refused s show (Err NoEvent) fault none (inr lacks) = absurd (lacks.1 tt)
shows_refused s show (Err Unaligned) fault none (inr lacks) = absurd (lacks.1 tt)
shows_refused s show (Err NotMemory) fault none (inr lacks) = absurd (lacks.1 tt)
shows_refused s show (Err TooFar) fault none (inr lacks) = absurd (lacks.1 tt)

-- that no step wrote a register is shown, and any other refusal stays
is_memory : Fault → Bool
is_memory Memory = true
is_memory fault = false
