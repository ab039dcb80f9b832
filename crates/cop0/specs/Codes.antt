-- The codes of exceptions and the numbers of coprocessors in Cause (Kane and Heinrich, chapter 6).
use Rattle.std.specs.Prelude.{ℕ}
use Rattle.cop0.specs.declared.exception.Coprocessor.{Coprocessor}
use Rattle.cop0.specs.declared.exception.Coprocessor.TheVariants.{Cp0, Cp1, Cp2, Cp3}
use Rattle.cop0.specs.declared.exception.ExcCode.{ExcCode}
use Rattle.cop0.specs.declared.exception.ExcCode.TheVariants.{Interrupt, Modification, TlbLoad, TlbStore, AddressLoad, AddressStore, BusFetch, BusLoad, SystemCall, Breakpoint, ReservedInstruction, CoprocessorUnusable, Overflow}

-- the code of an exception
abbrev pub code_of : ExcCode → ℕ
code_of Interrupt = 0
code_of Modification = 1
code_of TlbLoad = 2
code_of TlbStore = 3
code_of AddressLoad = 4
code_of AddressStore = 5
code_of BusFetch = 6
code_of BusLoad = 7
code_of SystemCall = 8
code_of Breakpoint = 9
code_of ReservedInstruction = 10
code_of (CoprocessorUnusable coprocessor) = 11
code_of Overflow = 12

-- the number of a coprocessor
abbrev pub number_of : Coprocessor → ℕ
number_of Cp0 = 0
number_of Cp1 = 1
number_of Cp2 = 2
number_of Cp3 = 3

-- CE: the coprocessor that is not usable, and 0 for any other code
abbrev pub ce_of : ExcCode → ℕ
ce_of (CoprocessorUnusable coprocessor) = number_of coprocessor
ce_of code = 0
