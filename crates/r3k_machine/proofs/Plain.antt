-- An addition of nothing has the effect of a shift by nothing, and of a sum or a union with r0.
use Rattle.std.proofs.Common.{◌≡◌, ℕ, ◌+◌, ◌*◌, ◌%◌, ◌^◌, refl, sym, ap, ◌∙◌, arith}
use Rattle.std.specs.Prelude.{slice_index, bit_or}
use Rattle.std.specs.Int.Bits.{or_zero_r}
use Rattle.r3k_table.specs.Mnemonics.{number_of}
use Rattle.r3k_table.specs.declared.mnemonic.Mnemonic.TheVariants.{Addu, Or, Sll}
use Rattle.r3k_decode.specs.Operation.{Operation, addiu_of}
use Rattle.r3k_exec.specs.declared.operands.Effect.TheVariants.{Write}
use Rattle.r3k_machine.specs.Known.{HasEffectOf}

pub itself : (i : Operation) → HasEffectOf i i
itself i core zero within = refl

pub of_shift : (i : Operation) → number_of Sll ≡ i.row → i.sa ≡ 0 → HasEffectOf i (addiu_of i.rd i.rt 0)
of_shift i row none core zero within =
    let x = slice_index core.registers i.rt in
    let value : (x + 0) % 2 ^ 32 ≡ x * 2 ^ i.sa % 2 ^ 32 = rw none (omega arith) in
    rw (sym row) (ap (λ (n : ℕ). Write i.rd n) value)

pub of_sum : (i : Operation) → number_of Addu ≡ i.row → i.rt ≡ 0 → HasEffectOf i (addiu_of i.rd i.rs 0)
of_sum i row none core zero within =
    let x = slice_index core.registers i.rs in
    let value : (x + 0) % 2 ^ 32 ≡ (x + slice_index core.registers i.rt) % 2 ^ 32 = rw (none, zero) refl in
    rw (sym row) (ap (λ (n : ℕ). Write i.rd n) value)

pub of_union : (i : Operation) → number_of Or ≡ i.row → i.rt ≡ 0 → HasEffectOf i (addiu_of i.rd i.rs 0)
of_union i row none core zero within =
    let x = slice_index core.registers i.rs in
    let other : slice_index core.registers i.rt ≡ 0 = ap (slice_index core.registers) none ∙ zero in
    let value : (x + 0) % 2 ^ 32 ≡ bit_or x (slice_index core.registers i.rt) =
    (let same : (x + 0) % 2 ^ 32 ≡ x = omega (arith, within) in same) ∙ (sym (or_zero_r x) ∙ ap (bit_or x) (sym other)) in
    rw (sym row) (ap (λ (n : ℕ). Write i.rd n) value)
