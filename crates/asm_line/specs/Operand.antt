-- The operands of an instruction (own, after the assembler of Kane and Heinrich, appendix D).
use Rattle.std.specs.Prelude.{ℕ, ◌+◌, ◌-◌, ◌*◌, ◌%◌, ◌^◌, ◌==◌, ◌&&◌, Bool, true, false, List, [], ◌∷◌, length, drop, nat_lt, nat_eq, slice_index, codes, Option, Some, None, option_map, option_and_then, if◌then◌else◌}
use Rattle.std.specs.List.{starts_with}
use Rattle.r3k_table.specs.declared.operand.Operand.{Operand}
use Rattle.r3k_table.specs.declared.operand.Operand.TheVariants.{Rs, Rt, Rd, Control, Sa, Code, Signed, Unsigned, Branch, Jump, Based}
use Rattle.asm_line.specs.declared.span.Class.TheVariants as class
use Rattle.asm_line.specs.declared.target.Reach.{Reach}
use Rattle.asm_line.specs.declared.target.Reach.TheVariants as reach
use Rattle.asm_line.specs.declared.target.Place.{Place}
use Rattle.asm_line.specs.declared.target.Place.TheVariants.{Address, Label}
use Rattle.asm_line.specs.declared.operand.Operands.{Operands}
use Rattle.asm_line.specs.Span.{front_of, rest_of}
use Rattle.asm_line.specs.Name.{is_name, register_of}
use Rattle.asm_line.specs.Number.{number_of}

-- one part after the other, as long as there is each
infixl 10 ◌>>=◌
abbrev pub ◌>>=◌ : {A B : Type 0} → Option A → (A → Option B) → Option B
o >>= f = option_and_then f o

-- what the word at the front of a text says, and what follows it
abbrev pub word_at : {A : Type 0} → (List ℕ → Option A) → List ℕ → Option (A × List ℕ)
word_at read text = option_map (λ x. (x, rest_of class.Word text)) (read (front_of class.Word text))

-- a register after a letter
abbrev pub register_at : ℕ → List ℕ → Option (ℕ × List ℕ)
register_at letter text = word_at (register_of letter) text

-- a number
abbrev pub number_at : List ℕ → Option (ℕ × List ℕ)
number_at text = word_at number_of text

-- a number below a limit
abbrev pub below : ℕ → ℕ → Option ℕ
below limit number = if nat_lt number limit then Some number else None

-- a number with its sign as a half word: -32768 to 32767
abbrev pub half_of : Bool → ℕ → Option ℕ
half_of true number = if nat_lt (2 ^ 15) number then None else Some ((2 ^ 16 - number) % 2 ^ 16)
half_of false number = below (2 ^ 15) number

-- a signed number: - stands directly before its digits
unfoldable pub signed_at : List ℕ → Option (Option ℕ × List ℕ)
signed_at text =
    if starts_with nat_eq text (codes "-") then option_map (λ x. (half_of true x.0, x.1)) (number_at (drop 1 text))
    else option_map (λ x. (half_of false x.0, x.1)) (number_at text)

-- a target: a label, or a number of at most 2^32 - 1
abbrev pub place_of : List ℕ → Option (Option Place)
place_of word =
    if is_name word then Some (Some (Label word))
    else option_map (λ n. if nat_lt (2 ^ 32 - 1) n then None else Some (Address n)) (number_of word)

unfoldable pub place_at : List ℕ → Option (Option Place × List ℕ)
place_at text = word_at place_of text

-- what follows a byte and the blanks around it
unfoldable pub after : ℕ → List ℕ → Option (List ℕ)
after byte text =
    let rest = rest_of class.Blank text in
    if nat_lt 0 (length rest) && (slice_index rest 0 == byte) then Some (rest_of class.Blank (drop 1 rest)) else None

-- what a number says, which may be out of range
abbrev pub checked : Option ℕ → Operands
checked (Some field) = record { fields = field; in_range = true; target = None }
checked None = record { fields = 0; in_range = false; target = None }

-- what a target says, which may be out of range
abbrev pub aimed : Reach → Option Place → Operands
aimed reach (Some place) = record { fields = 0; in_range = true; target = Some (record { reach = reach; place = place }) }
aimed reach None = record { fields = 0; in_range = false; target = None }

-- a register in its field
unfoldable pub register_field : ℕ → ℕ → List ℕ → Option (Operands × List ℕ)
register_field letter scale text = option_map (λ x. (checked (Some (x.0 * scale)), x.1)) (register_at letter text)

-- a number in its field
unfoldable pub number_field : ℕ → ℕ → List ℕ → Option (Operands × List ℕ)
number_field limit scale text = option_map (λ x. (checked (option_map (λ n. n * scale) (below limit x.0)), x.1)) (number_at text)

-- a target
unfoldable pub target_at : Reach → List ℕ → Option (Operands × List ℕ)
target_at reach text = option_map (λ x. (aimed reach x.0, x.1)) (place_at text)

-- an offset, and in parentheses the register that it is counted from
unfoldable pub based_at : List ℕ → Option (Operands × List ℕ)
based_at text = do
  offset ← signed_at text
  inside ← after 40 offset.1
  base ← register_at 114 inside
  rest ← after 41 base.1
  Some (checked (option_map (λ n. n + base.0 * 2 ^ 21) offset.0), rest)

-- an operand at the front of a text, and what follows it
unfoldable pub operand_at : Operand → List ℕ → Option (Operands × List ℕ)
operand_at Rs text = register_field 114 (2 ^ 21) text
operand_at Rt text = register_field 114 (2 ^ 16) text
operand_at Rd text = register_field 114 (2 ^ 11) text
operand_at Control text = register_field 99 (2 ^ 11) text
operand_at Sa text = number_field 32 (2 ^ 6) text
operand_at Code text = number_field (2 ^ 20) (2 ^ 6) text
operand_at Signed text = option_map (λ x. (checked x.0, x.1)) (signed_at text)
operand_at Unsigned text = number_field (2 ^ 16) 1 text
operand_at Branch text = target_at reach.Branch text
operand_at Jump text = target_at reach.Jump text
operand_at Based text = based_at text

-- the one of two that is there
abbrev pub either : {A : Type 0} → Option A → Option A → Option A
either (Some x) o = Some x
either None o = o

-- what two operands say together
abbrev pub joined : Operands → Operands → Operands
joined a b = record { fields = (a.fields + b.fields) % 2 ^ 32; in_range = a.in_range && b.in_range; target = either a.target b.target }

-- nothing but blanks
abbrev pub is_blank : List ℕ → Bool
is_blank text = length (rest_of class.Blank text) == 0

-- these operands, with commas between them, and nothing after them
unfoldable pub operands_at : List Operand → List ℕ → Option Operands
operands_at [] text = if is_blank text then Some (checked (Some 0)) else None
operands_at (o ∷ []) text = operand_at o (rest_of class.Blank text) >>= λ x. if is_blank x.1 then Some x.0 else None
operands_at (o ∷ p ∷ os) text = do
  x ← operand_at o (rest_of class.Blank text)
  rest ← after 44 x.1
  more ← operands_at (p ∷ os) rest
  Some (joined x.0 more)
