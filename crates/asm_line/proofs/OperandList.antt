-- Operands in a text: the first, and then the others.
use Rattle.std.proofs.Common.{◌≡◌, ℕ, ◌-◌, ◌<◌, ◌≤◌, List, [], ◌∷◌, length, get_or, take, drop, Option, Some, None, refl, ap, ◌∙◌, arith}
use Rattle.std.specs.Prelude.{if◌then◌else◌}
use Rattle.std.proofs.lemmas.List.{take_all}
use Rattle.r3k_table.specs.declared.operand.Operand.{Operand}
use Rattle.asm_line.specs.declared.span.Class.TheVariants as class
use Rattle.asm_line.specs.declared.operand.Operands.{Operands}
use Rattle.asm_line.specs.Span.{rest_of}
use Rattle.asm_line.specs.Operand.{◌>>=◌, after, operand_at, operands_at, checked, joined, is_blank}

-- those after the first
abbrev pub others : List Operand → List Operand
others os = take (length os - 1) (drop 1 os)

pub no_operand : (os : List Operand) (text : List ℕ) → length os < 1
    → operands_at os text ≡ (if is_blank text then Some (checked (Some 0)) else None)
unfolding operands_at
no_operand [] text h = refl
no_operand (o ∷ os) text h = absurd (omega arith)

pub bad_operand : (os : List Operand) (text : List ℕ) (d : Operand) → 1 ≤ length os → None ≡ operand_at (get_or os 0 d) (rest_of class.Blank text)
    → None ≡ operands_at os text
unfolding operands_at
bad_operand [] text d some none = absurd (omega arith)
bad_operand (o ∷ []) text d some none = ap (λ (x : Option (Operands × List ℕ)). x >>= λ y. if is_blank y.1 then Some y.0 else None) none
bad_operand (o ∷ p ∷ os) text d some none = ap (λ (x : Option (Operands × List ℕ)). x >>= λ y. after 44 y.1 >>= λ rest. operands_at (p ∷ os) rest >>= λ more. Some (joined y.0 more)) none

pub last_operand : (os : List Operand) (text : List ℕ) (d : Operand) (x : Operands × List ℕ) → 1 ≤ length os → length (others os) ≡ 0
    → Some x ≡ operand_at (get_or os 0 d) (rest_of class.Blank text)
    → (if is_blank x.1 then Some x.0 else None) ≡ operands_at os text
unfolding operands_at
last_operand [] text d x some alone is = absurd (omega arith)
last_operand (o ∷ []) text d x some alone is = ap (λ (y : Option (Operands × List ℕ)). y >>= λ z. if is_blank z.1 then Some z.0 else None) is
last_operand (o ∷ p ∷ os) text d x some alone is =
    absurd (let e = take_all (length (o ∷ p ∷ os) - 1) (p ∷ os) (omega arith) in omega (arith, alone, ap length e))

pub more_operands : (os : List Operand) (text : List ℕ) (d : Operand) (x : Operands × List ℕ) → 1 ≤ length os → (length (others os) ≡ 0 → ⊥)
    → Some x ≡ operand_at (get_or os 0 d) (rest_of class.Blank text)
    → (after 44 x.1 >>= λ rest. operands_at (others os) rest >>= λ more. Some (joined x.0 more)) ≡ operands_at os text
unfolding operands_at
more_operands [] text d x some alone is = absurd (omega arith)
more_operands (o ∷ []) text d x some alone is = absurd (alone (let none : others (o ∷ []) ≡ [] = take_all {A = Operand} (length (o ∷ []) - 1) [] (omega arith) in ap length none))
more_operands (o ∷ p ∷ os) text d x some alone is =
    let all : others (o ∷ p ∷ os) ≡ p ∷ os = take_all (length (o ∷ p ∷ os) - 1) (p ∷ os) (omega arith) in
    ap (λ (ps : List Operand). after 44 x.1 >>= λ rest. operands_at ps rest >>= λ more. Some (joined x.0 more)) all
    ∙ ap (λ (y : Option (Operands × List ℕ)). y >>= λ z. after 44 z.1 >>= λ rest. operands_at (p ∷ os) rest >>= λ more. Some (joined z.0 more)) is
