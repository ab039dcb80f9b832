-- The state of the machine but for memory, after Kane and Heinrich, chapters 2 and 6, and the KN02 system module: the registers, of
-- which r0 holds 0, HI, LO, PC, next PC, the delay mark, the load slot, the control registers, the translation entries, the two
-- arrays of the isolated cache, and the devices on the bus.
use Rattle.std.specs.Prelude.{◌≡◌, ℕ, Bool, List, Option, slice_index}
use Rattle.cop0.specs.Registers.{Registers}
use Rattle.tlb64.specs.declared.entry.Entry.{Entry}
use Rattle.dcache.specs.Arrays.{Arrays}
use Rattle.kn02_bus.specs.State.{BusState}
use Rattle.r3k_machine.specs.LoadSlot.{DelayedLoad}

pub record Core : Type 0 where
  pub registers : List ℕ
  pub hi : ℕ
  pub lo : ℕ
  pub pc : ℕ
  pub next_pc : ℕ
  pub delay : Bool
  pub load : Option DelayedLoad
  pub cop0 : Registers
  pub entries : List Entry
  pub caches : Arrays
  pub bus : BusState

-- r0 holds 0
abbrev pub HoldsZero : List ℕ → Type 0
HoldsZero registers = slice_index registers 0 ≡ 0
