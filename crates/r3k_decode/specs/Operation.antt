-- An instruction: the number of its row, and its fields, after Kane and Heinrich, appendix A.
use Rattle.std.specs.Prelude.{ℕ, ◌+◌, ◌*◌, ◌^◌, ◌<◌, slice_get, IsSomeAnd}
use Rattle.r3k_table.specs.declared.row.Shape.{Shape}
use Rattle.r3k_table.specs.Fields.{fields_of}
use Rattle.r3k_table.specs.Table.{instructions}
use Rattle.r3k_table.specs.Mnemonics.{number_of}
use Rattle.r3k_table.specs.declared.mnemonic.Mnemonic.TheVariants.{Addiu}
use Rattle.r3k_word.specs.Word.{field_of}
use Rattle.r3k_decode.specs.Kept.{kept, IsZeroUnless}

pub record Operation : Type 0 where
  pub row : ℕ
  pub rs : ℕ
  pub rt : ℕ
  pub rd : ℕ
  pub sa : ℕ
  pub imm : ℕ
  pub index : ℕ
  pub code : ℕ

-- what a word says as an instruction of this row and shape: the fields of the shape, and 0 for the others
abbrev pub read_as : ℕ → Shape → ℕ → Operation
read_as row shape word = record {
  row = row;
  rs = kept (fields_of shape).rs (field_of 25 21 word);
  rt = kept (fields_of shape).rt (field_of 20 16 word);
  rd = kept (fields_of shape).rd (field_of 15 11 word);
  sa = kept (fields_of shape).sa (field_of 10 6 word);
  imm = kept (fields_of shape).imm (field_of 15 0 word);
  index = kept (fields_of shape).index (field_of 25 0 word);
  code = kept (fields_of shape).code (field_of 25 6 word);
}

-- the instruction addiu
abbrev pub addiu_of : (rt rs imm : ℕ) → Operation
addiu_of rt rs imm = record { row = number_of Addiu; rs = rs; rt = rt; rd = 0; sa = 0; imm = imm; index = 0; code = 0 }

-- the fields of the shape where they stand in a word
abbrev pub placed : Shape → Operation → ℕ
placed shape i =
    kept (fields_of shape).rs i.rs * 2 ^ 21 + kept (fields_of shape).rt i.rt * 2 ^ 16 + kept (fields_of shape).rd i.rd * 2 ^ 11
    + kept (fields_of shape).sa i.sa * 2 ^ 6 + kept (fields_of shape).imm i.imm + kept (fields_of shape).index i.index
    + kept (fields_of shape).code i.code * 2 ^ 6

-- the fields that the shape lacks are 0
pub record IsZeroElsewhere (shape : Shape) (i : Operation) : Type 0 where
  pub rs : IsZeroUnless (fields_of shape).rs i.rs
  pub rt : IsZeroUnless (fields_of shape).rt i.rt
  pub rd : IsZeroUnless (fields_of shape).rd i.rd
  pub sa : IsZeroUnless (fields_of shape).sa i.sa
  pub imm : IsZeroUnless (fields_of shape).imm i.imm
  pub index : IsZeroUnless (fields_of shape).index i.index
  pub code : IsZeroUnless (fields_of shape).code i.code

-- each field fits its width
pub record FitsFields (i : Operation) : Type 0 where
  pub rs : i.rs < 2 ^ 5
  pub rt : i.rt < 2 ^ 5
  pub rd : i.rd < 2 ^ 5
  pub sa : i.sa < 2 ^ 5
  pub imm : i.imm < 2 ^ 16
  pub index : i.index < 2 ^ 26
  pub code : i.code < 2 ^ 20

-- an instruction of the table: its fields fit, and those that its shape lacks are 0
pub record IsOperation (i : Operation) : Type 0 where
  pub fits : FitsFields i
  pub row : IsSomeAnd (slice_get instructions i.row) (λ r. IsZeroElsewhere r.shape i)
