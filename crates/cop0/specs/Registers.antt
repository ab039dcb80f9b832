-- The control registers (Kane and Heinrich, chapters 4 and 6; the write masks and PRId are own).
use Rattle.std.specs.Prelude.{ℕ, ◌*◌, ◌^◌, ◌==◌, if◌then◌else◌}
use Rattle.r3k_word.specs.Word.{merged}
use Rattle.cop0.specs.declared.number.TheConstants.{INDEX, RANDOM, ENTRY_LO, CONTEXT, BAD_VADDR, ENTRY_HI, STATUS, CAUSE, EPC, PRID, INDEX_MASK, ENTRY_LO_MASK, CONTEXT_MASK, ENTRY_HI_MASK, STATUS_MASK, CAUSE_MASK, REVISION}
use Rattle.cop0.specs.declared.status.TheConstants.{BEV}

-- the control registers: Index, Random from 8 to 63, EntryLo, Context, BadVAddr, EntryHi, Status, Cause and EPC
pub record Registers : Type 0 where
  pub index : ℕ
  pub random : ℕ
  pub entry_lo : ℕ
  pub context : ℕ
  pub bad_vaddr : ℕ
  pub entry_hi : ℕ
  pub status : ℕ
  pub cause : ℕ
  pub epc : ℕ

-- at reset Status has BEV alone, and Random is 63 (own)
abbrev pub reset_registers : Registers
reset_registers = record { index = 0; random = 63; entry_lo = 0; context = 0; bad_vaddr = 0; entry_hi = 0; status = BEV; cause = 0; epc = 0 }

-- what a register reads, by its number: Random in bits 13 to 8, PRId constant, and 0 where there is none
abbrev pub register_of : Registers → ℕ → ℕ
register_of c number =
    if number == INDEX then c.index
    else (if number == RANDOM then c.random * 2 ^ 8
    else (if number == ENTRY_LO then c.entry_lo
    else (if number == CONTEXT then c.context
    else (if number == BAD_VADDR then c.bad_vaddr
    else (if number == ENTRY_HI then c.entry_hi
    else (if number == STATUS then c.status
    else (if number == CAUSE then c.cause
    else (if number == EPC then c.epc
    else (if number == PRID then REVISION
    else 0)))))))))

-- the registers after a write, by their write masks; those without one ignore writes
abbrev pub written : Registers → (number word : ℕ) → Registers
written c number word =
    if number == INDEX then record c { index = merged INDEX_MASK c.index word }
    else (if number == ENTRY_LO then record c { entry_lo = merged ENTRY_LO_MASK c.entry_lo word }
    else (if number == CONTEXT then record c { context = merged CONTEXT_MASK c.context word }
    else (if number == ENTRY_HI then record c { entry_hi = merged ENTRY_HI_MASK c.entry_hi word }
    else (if number == STATUS then record c { status = merged STATUS_MASK c.status word }
    else (if number == CAUSE then record c { cause = merged CAUSE_MASK c.cause word }
    else c)))))
