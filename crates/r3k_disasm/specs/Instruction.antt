-- The text of a word (own, after the assembler of Kane and Heinrich, appendix D): the name of its row, and its operands. A
-- word without a row is written as `.word`.
use Rattle.std.specs.Prelude.{ℕ, List, [], ◌∷◌, ◌++◌, codes, slice_get}
use Rattle.std.specs.Option.{option_map_or}
use Rattle.std.specs.Fmt.{decimal}
use Rattle.r3k_table.specs.declared.operand.Operand.{Operand}
use Rattle.r3k_table.specs.declared.operand.Operand.TheVariants.{Rs, Rt, Rd, Control, Sa, Code, Signed, Unsigned, Branch, Jump, Based}
use Rattle.r3k_table.specs.Table.{Instruction, instructions}
use Rattle.r3k_table.specs.Operands.{operands_of}
use Rattle.r3k_decode.specs.Operation.{Operation}
use Rattle.r3k_decode.specs.Decoding.{operation_of}
use Rattle.r3k_disasm.specs.Number.{hexadecimal, signed_text}
use Rattle.r3k_decode.specs.Target.{branch_target_of, jump_target_of}

-- r and the number of a register
abbrev pub register_text : ℕ → List ℕ
register_text register = codes "r" ++ decimal register

-- 0x and `count` hexadecimal digits
abbrev pub hexadecimal_text : ℕ → ℕ → List ℕ
hexadecimal_text count number = codes "0x" ++ hexadecimal count number

-- an operand of an instruction at an address, one clause an operand
abbrev pub operand_text : ℕ → Operation → Operand → List ℕ
operand_text address i Rs = register_text i.rs
operand_text address i Rt = register_text i.rt
operand_text address i Rd = register_text i.rd
operand_text address i Control = codes "c" ++ decimal i.rd
operand_text address i Sa = decimal i.sa
operand_text address i Code = decimal i.code
operand_text address i Signed = signed_text i.imm
operand_text address i Unsigned = hexadecimal_text 4 i.imm
operand_text address i Branch = hexadecimal_text 8 (branch_target_of address i.imm)
operand_text address i Jump = hexadecimal_text 8 (jump_target_of address i.index)
operand_text address i Based = signed_text i.imm ++ codes "(" ++ register_text i.rs ++ codes ")"

-- the most bytes of an operand, with the two that may separate it from what comes before it
abbrev pub most_bytes : Operand → ℕ
most_bytes Rs = 10
most_bytes Rt = 10
most_bytes Rd = 10
most_bytes Control = 10
most_bytes Sa = 9
most_bytes Code = 9
most_bytes Signed = 10
most_bytes Unsigned = 10
most_bytes Branch = 12
most_bytes Jump = 12
most_bytes Based = 20

-- operands, each after its separator: a blank after the name, and a comma and a blank
-- after another operand
unfoldable pub operands_text : List ℕ → ℕ → Operation → List Operand → List ℕ
operands_text separator address i [] = []
operands_text separator address i (o ∷ os) = separator ++ operand_text address i o ++ operands_text (codes ", ") address i os

-- an instruction of a row at an address: the name of the row, and the operands of its shape
abbrev pub instruction_text : ℕ → Operation → Instruction → List ℕ
instruction_text address i row = row.name ++ operands_text (codes " ") address i (operands_of row.shape)

-- the text of a word at an address; one without a row is `.word` and its eight digits
abbrev pub text_of : ℕ → ℕ → List ℕ
text_of address word =
    option_map_or (λ i. option_map_or (instruction_text address i) (slice_get instructions i.row) [])
    (operation_of word) (codes ".word " ++ hexadecimal_text 8 word)
