-- The machine that runs (own): its state, and how many steps it has made.
use Rattle.std.specs.Prelude.{ℕ, ◌+◌, ◌-◌, ◌^◌, min}
use Rattle.r3k_machine.specs.Core.{Core}
use Rattle.r3k_machine.specs.State.{State}
use Rattle.r3k_decode.specs.Operation.{Operation}
use Rattle.r3k_live.specs.declared.flat.FlatMemory.{FlatMemory}
use Rattle.r3k_live.specs.Slots.{known_at}

pub record Living : Type 0 where
  pub state : State
  pub steps : ℕ

-- a core and a memory as a state
abbrev pub state_of : {pages : ℕ} → Core → FlatMemory pages → State
state_of core memory = record { core = core; words = memory.words.items }

-- what is known of the words of open pages
abbrev pub known_in : (pages : ℕ) → FlatMemory pages → (page index : ℕ) → Operation
known_in pages memory = known_at pages memory.known.items memory.stop

-- a count of steps after some more. It stands still at the greatest number
abbrev pub counted : ℕ → ℕ → ℕ
counted before steps = min (before + steps) (2 ^ 64 - 1)
