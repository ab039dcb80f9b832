-- Exceptions, after Kane and Heinrich, chapter 6. That a pending load lands is own.
use Rattle.std.specs.Prelude.{ℕ, ◌==◌, ◌&&◌, ◌||◌, not, Bool, true, false, Option, Some, None, nat_le, if◌then◌else◌}
use Rattle.r3k_word.specs.Word.{field_of, sum_of}
use Rattle.cop0.specs.declared.exception.Coprocessor.{Coprocessor}
use Rattle.cop0.specs.declared.exception.Coprocessor.TheVariants.{Cp0, Cp1, Cp2, Cp3}
use Rattle.cop0.specs.declared.exception.Exc.{Exc}
use Rattle.cop0.specs.declared.exception.ExcCode.{ExcCode}
use Rattle.cop0.specs.declared.exception.ExcCode.TheVariants as code
use Rattle.cop0.specs.Exception as control
use Rattle.cop0.specs.Status.{is_usable}
use Rattle.r3k_exec.specs.declared.operands.Trap.{Trap}
use Rattle.r3k_exec.specs.declared.operands.Trap.TheVariants as trap
use Rattle.r3k_machine.specs.declared.exception.Exception.{Exception}
use Rattle.r3k_machine.specs.declared.exception.Exception.TheVariants.{Interrupt, AddressErrorLoad, AddressErrorStore, TlbLoad, TlbStore, Modification, BusErrorFetch, BusErrorLoad, SystemCall, Breakpoint, ReservedInstruction, CoprocessorUnusable, Overflow}
use Rattle.r3k_machine.specs.Core.{Core}
use Rattle.r3k_machine.specs.State.{landed}

-- the code of each
abbrev pub code_of : Exception → ExcCode
code_of Interrupt = code.Interrupt
code_of (AddressErrorLoad address) = code.AddressLoad
code_of (AddressErrorStore address) = code.AddressStore
code_of (TlbLoad address refill) = code.TlbLoad
code_of (TlbStore address refill) = code.TlbStore
code_of (Modification address) = code.Modification
code_of BusErrorFetch = code.BusFetch
code_of BusErrorLoad = code.BusLoad
code_of SystemCall = code.SystemCall
code_of Breakpoint = code.Breakpoint
code_of ReservedInstruction = code.ReservedInstruction
code_of (CoprocessorUnusable coprocessor) = code.CoprocessorUnusable coprocessor
code_of Overflow = code.Overflow

-- the address that BadVAddr is loaded with
abbrev pub bad_of : Exception → Option ℕ
bad_of (AddressErrorLoad address) = Some address
bad_of (AddressErrorStore address) = Some address
bad_of (TlbLoad address refill) = Some address
bad_of (TlbStore address refill) = Some address
bad_of (Modification address) = Some address
bad_of exception = None

-- the exceptions of translation, which load Context and EntryHi too
abbrev pub is_mapped : Exception → Bool
is_mapped (TlbLoad address refill) = true
is_mapped (TlbStore address refill) = true
is_mapped (Modification address) = true
is_mapped exception = false

-- those that call the handler for user misses
abbrev pub is_refill : Exception → Bool
is_refill (TlbLoad address refill) = refill
is_refill (TlbStore address refill) = refill
is_refill exception = false

-- what an exception of the instruction at PC reports to the control registers
abbrev pub exc_of : Core → Exception → Exc
exc_of core exception = record {
  code = code_of exception;
  pc = core.pc;
  delay = core.delay;
  bad = bad_of exception;
  mapped = is_mapped exception;
  refill = is_refill exception;
}

-- The processor after an exception of the instruction at its PC: the instruction writes nothing, the pending load lands,
-- and the handler comes next.
abbrev pub entered : Core → Exception → Core
entered core exception = record core {
  registers = landed core.registers core.load;
  pc = control.vector_of core.cop0.status (is_refill exception);
  next_pc = sum_of (control.vector_of core.cop0.status (is_refill exception)) 4;
  delay = false;
  load = None;
  cop0 = control.entered core.cop0 (exc_of core exception);
}

-- the exceptions that an instruction makes by itself
abbrev pub exception_of : Trap → Exception
exception_of trap.SystemCall = SystemCall
exception_of trap.Breakpoint = Breakpoint
exception_of trap.Overflow = Overflow

-- a word of opcode 16, coprocessor 0's, where that is not usable
abbrev pub is_unusable : Core → ℕ → Bool
is_unusable core word = (field_of 31 26 word == 16) && not (is_usable core.cop0)

-- the opcodes of coprocessors 1 to 3, their loads and their stores
abbrev pub is_of_coprocessor : ℕ → Bool
is_of_coprocessor opcode =
    (nat_le 17 opcode && nat_le opcode 19) || ((nat_le 49 opcode && nat_le opcode 51) || (nat_le 57 opcode && nat_le opcode 59))

-- a coprocessor by its number
abbrev pub coprocessor_numbered : ℕ → Coprocessor
coprocessor_numbered number =
    if number == 0 then Cp0 else (if number == 1 then Cp1 else (if number == 2 then Cp2 else Cp3))

-- A word without a row: coprocessors 1 to 3 are never usable, and their number is that of the opcode's two low bits. Any other
-- is a reserved instruction.
abbrev pub without_row : ℕ → Exception
without_row word =
    if is_of_coprocessor (field_of 31 26 word)
    then CoprocessorUnusable (coprocessor_numbered (field_of 27 26 word))
    else ReservedInstruction
