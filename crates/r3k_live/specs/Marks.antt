-- The marks of what steps wrote (own), by which a search leaves out those that wrote nothing of the kind: the page of a word, or a number
-- above those of all pages for a register.
use Rattle.std.specs.Prelude.{ℕ, zero, suc, ◌+◌, ◌/◌, ◌^◌, List, [], ◌∷◌, ◌++◌, is_some, if◌then◌else◌}
use Rattle.r3k_word.specs.declared.layout.TheConstants.{PAGE_BYTES}
use Rattle.r3k_machine.specs.declared.step.Done.{Done}
use Rattle.r3k_machine.specs.declared.target.Target.{Target}
use Rattle.r3k_machine.specs.declared.target.Target.TheVariants.{Memory, Register}
use Rattle.r3k_machine.specs.Run.{last_writer}
use Rattle.r3k_live.specs.Record.{dirty_pages}

abbrev pub mark_of : Target → ℕ
mark_of (Memory address) = address / PAGE_BYTES
mark_of (Register number) = 2 ^ 20 + number

-- the marks of the registers below a number that steps wrote, in ascending order
unfoldable pub registers_below : List Done → ℕ → List ℕ
registers_below steps zero = []
registers_below steps (suc number) =
    registers_below steps number ++ (if is_some (last_writer (Register number) steps) then mark_of (Register number) ∷ [] else [])

-- the marks of all that steps wrote, in ascending order
abbrev pub marks_of : (pages : ℕ) → List Done → List ℕ
marks_of pages steps = dirty_pages pages steps ++ registers_below steps 34
