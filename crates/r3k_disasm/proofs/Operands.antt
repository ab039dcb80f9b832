-- Operands, one after the other.
use Rattle.std.proofs.Common.{◌≡◌, ℕ, ◌-◌, ◌<◌, ◌≤◌, List, [], ◌∷◌, ◌++◌, length, get_or, take, drop, codes, sym, append_assoc, append-nil, arith}
use Rattle.std.proofs.lemmas.List.{take_all}
use Rattle.r3k_table.specs.declared.operand.Operand.{Operand}
use Rattle.r3k_decode.specs.Operation.{Operation}
use Rattle.r3k_disasm.specs.Instruction.{operand_text, operands_text}

pub none : (old separator : List ℕ) (address : ℕ) (i : Operation) (os : List Operand) → length os < 1
    → old ≡ old ++ operands_text separator address i os
unfolding operands_text
none old separator address i [] short = sym (append-nil old)
none old separator address i (o ∷ os) short = absurd (omega arith)

-- the first operand, and then the others
pub more : (old separator : List ℕ) (address : ℕ) (i : Operation) (os : List Operand) (d : Operand) → 1 ≤ length os
    → ((old ++ separator) ++ operand_text address i (get_or os 0 d)) ++ operands_text (codes ", ") address i (take (length os - 1) (drop 1 os))
    ≡ old ++ operands_text separator address i os
unfolding operands_text
more old separator address i [] d some = absurd (omega arith)
more old separator address i (o ∷ os) d some =
    let all : take (length (o ∷ os) - 1) os ≡ os = take_all (length (o ∷ os) - 1) os (omega arith) in
    rw (all) (simp append_assoc)
