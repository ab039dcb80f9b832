-- An instruction of the code as the definition has it, and back.
use Rattle.std.specs.Prelude.{◌≡◌, ◌+◌, ℕ}
use Rattle.r3k_table.specs.Mnemonics.{number_of, mnemonic_of, mnemonic_again}
use Rattle.r3k_decode.specs.Fields.{fields_at}
use Rattle.r3k_decode.specs.Kept.{kept}
use Rattle.r3k_decode.specs.Operation.{Operation, IsOperation}
use Rattle.r3k_decode.specs.declared.insn.Insn.TheInside.{Inside}

abbrev pub operation : Inside → Operation
operation i = record {
  row = number_of i.mnemonic;
  rs = i.rs;
  rt = i.rt;
  rd = i.rd;
  sa = kept (fields_at (number_of i.mnemonic)).sa i.rest;
  imm = kept (fields_at (number_of i.mnemonic)).imm i.rest;
  index = kept (fields_at (number_of i.mnemonic)).index i.rest;
  code = kept (fields_at (number_of i.mnemonic)).code i.rest;
}

-- the one of four fields that an instruction has, or 0
abbrev pub rest_of : Operation → ℕ
rest_of i = i.sa + i.imm + i.index + i.code

abbrev pub inside : Operation → Inside
inside i = record { mnemonic = mnemonic_of i.row; rs = i.rs; rt = i.rt; rd = i.rd; rest = rest_of i }

-- what the code holds is an instruction of the table, and no more
pub record IsInside (i : Inside) : Type 0 where
  pub said : IsOperation (operation i)
  pub whole : rest_of (operation i) ≡ i.rest

-- an instruction of the code is got back
pub inside_again : (i : Inside) → IsInside i → inside (operation i) ≡ i
inside_again i h = λ k. record i { mnemonic = mnemonic_again i.mnemonic k; rest = h.whole k }
