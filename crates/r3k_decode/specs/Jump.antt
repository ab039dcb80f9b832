-- How a word's row is found by jumps (own): one on the major opcode, and one on the bits that distinguish the rows of its group.
-- The row that they lead to is the only one that the word may match.
use Rattle.std.specs.Prelude.{ℕ, Bool, Option, ◌==◌, ◌&&◌, not, bit_and, option_and_then, slice_get, if◌then◌else◌, Some, None}
use Rattle.std.specs.List.{position_from}
use Rattle.r3k_table.specs.Table.{Instruction, instructions, matches}
use Rattle.r3k_decode.specs.declared.codec.TheConstants.{OPCODE, SPECIAL, REGIMM, COP0}
use Rattle.r3k_decode.specs.Operation.{Operation, read_as}

-- the bits of the major opcode
abbrev pub opcode_of : ℕ → ℕ
opcode_of word = bit_and word OPCODE

-- a group of rows: its major opcodes, and the bits that distinguish its rows
pub record Group : Type 0 where
  pub holds : ℕ → Bool
  pub key : ℕ

abbrev pub special_rows : Group
special_rows = record { holds = λ op. op == 0; key = SPECIAL }

abbrev pub regimm_rows : Group
regimm_rows = record { holds = λ op. op == 0x0400_0000; key = REGIMM }

abbrev pub cop0_rows : Group
cop0_rows = record { holds = λ op. op == 0x4000_0000; key = COP0 }

abbrev pub other_rows : Group
other_rows = record { holds = λ op. not (op == 0) && (not (op == 0x0400_0000) && not (op == 0x4000_0000)); key = OPCODE }

-- the row is of the group, and has these bits
abbrev pub has_key : Group → ℕ → Instruction → Bool
has_key g bits r = g.holds (opcode_of r.value) && (bit_and r.value g.key == bits)

-- the number of the row of the group that has these bits
abbrev pub picked : Group → ℕ → Option ℕ
picked g bits = position_from (has_key g bits) 0 instructions

-- the number of the row that the jumps lead to
abbrev pub candidate_of : ℕ → Option ℕ
candidate_of word =
    if opcode_of word == 0 then picked special_rows (bit_and word special_rows.key)
    else (if opcode_of word == 0x0400_0000 then picked regimm_rows (bit_and word regimm_rows.key)
    else (if opcode_of word == 0x4000_0000 then picked cop0_rows (bit_and word cop0_rows.key)
    else picked other_rows (bit_and word other_rows.key)))

-- what the word says as an instruction of a row, if it matches it
abbrev pub said_by : ℕ → ℕ → Instruction → Option Operation
said_by word number r = if matches word r then Some (read_as number r.shape word) else None

abbrev pub said_at : ℕ → ℕ → Option Operation
said_at word number = option_and_then (said_by word number) (slice_get instructions number)
