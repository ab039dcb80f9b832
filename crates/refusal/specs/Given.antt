-- What a call gives that may be refused (own). Its plain answer is the one of a machine that never lacks memory.
use Rattle.std.specs.Prelude.{◌≡◌, ◌⊎◌, Result, Ok, Err}
use Rattle.refusal.specs.declared.fault.Fault.{Fault}
use Rattle.refusal.specs.declared.fault.Fault.TheVariants.{Memory, Syntax, Range, NoEvent, Unaligned, NotMemory, TooFar, NotFound}

-- The refusals that come before want of memory. That the whole search found nothing comes after it.
abbrev pub ComesBeforeMemory : Fault → Type 0
ComesBeforeMemory Memory = ⊥
ComesBeforeMemory Syntax = Unit {0}
ComesBeforeMemory Range = Unit {0}
ComesBeforeMemory NoEvent = Unit {0}
ComesBeforeMemory Unaligned = Unit {0}
ComesBeforeMemory NotMemory = Unit {0}
ComesBeforeMemory TooFar = Unit {0}
ComesBeforeMemory NotFound = ⊥

-- where a plain answer may give way to want of memory
abbrev pub MayLackMemory : {A : Type 0} → Result A Fault → Type 0
MayLackMemory (Ok answer) = Unit {0}
MayLackMemory (Err fault) = ¬ ComesBeforeMemory fault

-- why nothing is given where the plain answer is this one: it is this refusal, or want of memory where it may come
abbrev pub GivesFault : {A : Type 0} → Result A Fault → Fault → Type 0
GivesFault plain fault = (plain ≡ Err fault) ⊎ ((fault ≡ Memory) × MayLackMemory plain)

-- what is given where the plain answer is this one
abbrev pub Gives : {A : Type 0} → Result A Fault → Result A Fault → Type 0
Gives plain (Ok answer) = plain ≡ Ok answer
Gives plain (Err fault) = GivesFault plain fault

-- A value after a change, and what the call gave, where the plain change leads to this value or is refused. What is
-- refused changes nothing.
abbrev pub Changes : {V A : Type 0} → Result V Fault → (old new : V) → Result A Fault → Type 0
Changes plain old new (Ok answer) = plain ≡ Ok new
Changes plain old new (Err fault) = (new ≡ old) × (plain ≡ Err fault)

-- the same of a change that takes memory
abbrev pub ChangesOrLacks : {V A : Type 0} → Result V Fault → (old new : V) → Result A Fault → Type 0
ChangesOrLacks plain old new (Ok answer) = plain ≡ Ok new
ChangesOrLacks plain old new (Err fault) = (new ≡ old) × GivesFault plain fault
