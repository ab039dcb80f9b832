-- What the second pass makes of a target (own; the fields after Kane and Heinrich, appendix A).
use Rattle.std.specs.Prelude.{ℕ, ◌/◌, ◌%◌, ◌^◌, ◌-◌, ◌==◌, ◌||◌, nat_lt, nat_le, Result, Ok, Err, if◌then◌else◌}
use Rattle.std.specs.Ordering.{nat_cmp}
use Rattle.std.specs.Cmp.Lexicographic.{slice_cmp}
use Rattle.std.specs.FinMap as map
use Rattle.r3k_word.specs.Word.{sum_of, difference_of}
use Rattle.asm_line.specs.declared.kind.AsmKind.{AsmKind}
use Rattle.asm_line.specs.declared.kind.AsmKind.TheVariants as kind
use Rattle.asm_line.specs.declared.target.Reach.{Reach}
use Rattle.asm_line.specs.declared.target.Reach.TheVariants.{Branch, Jump}
use Rattle.asm_line.specs.declared.target.Place.{Place}
use Rattle.asm_line.specs.declared.target.Place.TheVariants.{Address, Label}
use Rattle.asm_line.specs.Statement.{◌>>=◌, or_fault}
use Rattle.r3k_asm.specs.declared.reference.Reference.{Reference}

-- labels and their addresses
abbrev pub LabelMap : Type 0
LabelMap = map.FinMap (slice_cmp nat_cmp) ℕ

-- the address of a target: a label that is not defined is Label
abbrev pub target_of : LabelMap → Place → Result ℕ AsmKind
target_of labels (Address address) = Ok address
target_of labels (Label name) = or_fault kind.Label (map.get labels name)

-- The part of a word that a target gives: a jump keeps its low 28 bits, and a branch its distance from the delay slot, in
-- words. A target that is no multiple of 4 is Reach, and so is a branch by less than -131072 or more than 131068.
unfoldable pub field_of_target : Reach → ℕ → ℕ → Result ℕ AsmKind
field_of_target Jump address target = if target % 4 == 0 then Ok (target / 4 % 2 ^ 26) else Err kind.Reach
field_of_target Branch address target =
    let distance = difference_of target (sum_of address 4) in
    if target % 4 == 0
    then (if nat_lt distance (2 ^ 17) || nat_le (2 ^ 32 - 2 ^ 17) distance then Ok (distance / 4 % 2 ^ 16) else Err kind.Reach)
    else Err kind.Reach

-- a word with the part that its target gives
unfoldable pub word_of_reference : LabelMap → Reference → Result ℕ AsmKind
word_of_reference labels r = do
  target ← target_of labels r.target.place
  field ← field_of_target r.target.reach r.address target
  Ok (sum_of r.word field)
