-- What a line of source says (own). Its whole form is read before a number is judged.
use Rattle.std.specs.Prelude.{ℕ, zero, suc, ◌+◌, ◌%◌, ◌^◌, ◌==◌, ◌&&◌, ◌||◌, Bool, List, [], ◌∷◌, length, drop, nat_lt, nat_le, slice_index, codes, find, Option, Some, None, option_map, Result, Ok, Err, if◌then◌else◌}
use Rattle.std.specs.List.{list_all}
use Rattle.std.specs.Str.{bytes_eq}
use Rattle.r3k_table.specs.Table.{Instruction, instructions}
use Rattle.r3k_table.specs.Operands.{operands_of}
use Rattle.asm_line.specs.declared.span.Class.TheVariants as class
use Rattle.asm_line.specs.declared.kind.AsmKind.{AsmKind}
use Rattle.asm_line.specs.declared.kind.AsmKind.TheVariants as kind
use Rattle.asm_line.specs.declared.statement.Directive.{Directive}
use Rattle.asm_line.specs.declared.statement.Directive.TheVariants as directive
use Rattle.asm_line.specs.declared.statement.Statement.{Statement}
use Rattle.asm_line.specs.declared.statement.Statement.TheVariants.{Empty, Label, Origin, Word, ByteTime, Unit, Clock}
use Rattle.asm_line.specs.Span.{is_letter, is_in, front_of, rest_of}
use Rattle.asm_line.specs.Name.{is_name}
use Rattle.asm_line.specs.Operand as operand
use Rattle.asm_line.specs.Operand.{number_at, operands_at, is_blank, below}

-- one part after the other, up to the first fault
infixl 10 ◌>>=◌
abbrev pub ◌>>=◌ : {A B : Type 0} → Result A AsmKind → (A → Result B AsmKind) → Result B AsmKind
(Ok x) >>= f = f x
(Err e) >>= f = Err e

-- what is not there is this fault
abbrev pub or_fault : {A : Type 0} → AsmKind → Option A → Result A AsmKind
or_fault fault (Some x) = Ok x
or_fault fault None = Err fault

-- the row of a name
unfoldable pub row_named : List ℕ → Option Instruction
row_named name = find (λ r. bytes_eq r.name name) instructions

-- a text that may follow a mnemonic or a directive: it begins with a blank, or is empty
abbrev pub ends_word : List ℕ → Bool
ends_word text = (length text == 0) || is_in class.Blank (slice_index text 0)

-- the number in a text that has nothing else
abbrev pub one_number : List ℕ → Option ℕ
one_number text = operand.◌>>=◌ (number_at (rest_of class.Blank text)) (λ x. if is_blank x.1 then Some x.0 else None)

-- an instruction of a row with its operands, `Syntax` before `Number`: its word, which lacks the part of a target
unfoldable pub instruction_of : Instruction → List ℕ → Result Statement AsmKind
instruction_of row text = do
  operands ← or_fault kind.Syntax (operands_at (operands_of row.shape) text)
  if operands.in_range then Ok (Word ((row.value + operands.fields) % 2 ^ 32) operands.target) else Err kind.Number

-- a number in the range of a constant, 1 to 65,535
abbrev pub constant : ℕ → Option ℕ
constant number = if nat_le 1 number && nat_lt number (2 ^ 16) then Some number else None

-- a directive with its number, if that is in its range
abbrev pub made_of : Directive → ℕ → Option Statement
made_of directive.Origin number = option_map (λ n. Origin n) (below (2 ^ 32) number)
made_of directive.Word number = option_map (λ n. Word n None) (below (2 ^ 32) number)
made_of directive.ByteTime number = option_map (λ n. ByteTime n) (constant number)
made_of directive.Unit number = option_map (λ n. Unit n) (constant number)

-- a directive with the text of its number: no number is `Syntax`, one out of its range `Number`
unfoldable pub numbered : Directive → List ℕ → Result Statement AsmKind
numbered d text =
    if ends_word text then (or_fault kind.Syntax (one_number text) >>= λ n. or_fault kind.Number (made_of d n)) else Err kind.Syntax

-- n numbers with blanks between them, and nothing after them
unfoldable pub numbers_at : ℕ → List ℕ → Option (List ℕ)
numbers_at zero text = if is_blank text then Some [] else None
numbers_at (suc n) text =
    operand.◌>>=◌ (number_at (rest_of class.Blank text)) (λ x. operand.◌>>=◌ (numbers_at n x.1) (λ more. Some (x.0 ∷ more)))

-- whether a clock may start with these registers 0 to 11
abbrev pub is_start : List ℕ → Bool
is_start numbers = list_all (λ n. nat_lt n 256) numbers && (nat_lt (slice_index numbers 10) 128 && (slice_index numbers 11 % 2 == 0))

-- the 12 numbers of `.clock`, `Syntax` before `Number`
unfoldable pub clock_of : List ℕ → Result (List ℕ) AsmKind
clock_of text = or_fault kind.Syntax (numbers_at 12 text) >>= λ numbers. if is_start numbers then Ok numbers else Err kind.Number

-- a directive with the text after its name: `.org`, `.word`, `.bytetime`, `.unit` or `.clock`
unfoldable pub directive_of : List ℕ → List ℕ → Result Statement AsmKind
directive_of name text =
    if bytes_eq name (codes "org") then numbered directive.Origin text
    else (if bytes_eq name (codes "word") then numbered directive.Word text
    else (if bytes_eq name (codes "bytetime") then numbered directive.ByteTime text
    else (if bytes_eq name (codes "unit") then numbered directive.Unit text
    else (if bytes_eq name (codes "clock") then (if ends_word text then (clock_of text >>= λ numbers. Ok (Clock numbers)) else Err kind.Syntax)
    else Err kind.Name))))

-- a line that begins with a word: a label alone, where a colon follows at once, and else an instruction
unfoldable pub named : List ℕ → List ℕ → Result Statement AsmKind
named word text =
    if nat_lt 0 (length text) && (slice_index text 0 == 58)
    then (if is_name word && is_blank (drop 1 text) then Ok (Label word) else Err kind.Syntax)
    else or_fault kind.Name (row_named word) >>= λ row. if ends_word text then instruction_of row text else Err kind.Syntax

-- what a line says, or what is wrong with it, without its line feed and a carriage return before that: # begins a comment
unfoldable pub statement_of : List ℕ → Result Statement AsmKind
statement_of line =
    let text = rest_of class.Blank (front_of class.Code line) in
    if length text == 0 then Ok Empty
    else (if slice_index text 0 == 46 then directive_of (front_of class.Word (drop 1 text)) (rest_of class.Word (drop 1 text))
    else (if is_letter (slice_index text 0) then named (front_of class.Word text) (rest_of class.Word text)
    else Err kind.Syntax))
