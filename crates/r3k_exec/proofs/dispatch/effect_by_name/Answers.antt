use Rattle.std.proofs.Common.{◌≡◌, ℕ, sym, ap, ◌∙◌, slice_index_or}
use Rattle.r3k_table.specs.Mnemonics.{number_of}
use Rattle.r3k_exec.specs.Effects.{sll_effect, effects}
use Rattle.r3k_exec.proofs.dispatch.effect_by_name.Goals as goal

-- the row is that of sra
pub returns-in-Sra : goal.returns-in-Sra
returns-in-Sra c =
    let row : c.args.insn.now.row ≡ 2 = sym c.requires ∙ ap number_of c.in-Sra.is in
    c.sra.ensures ∙ ap (λ (n : ℕ). slice_index_or effects n sll_effect c.args.insn.now c.args.operands) (sym row)
