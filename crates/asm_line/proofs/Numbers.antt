-- Numbers, one after the other.
use Rattle.std.proofs.Common.{◌≡◌, ℕ, suc, List, [], ◌∷◌, ◌++◌, Option, Some, None, cond, true, false, refl, sym, ap, ◌∙◌, append_assoc}
use Rattle.std.specs.Prelude.{option_map}
use Rattle.std.proofs.lemmas.List.{append-nil}
use Rattle.asm_line.specs.declared.span.Class.TheVariants as class
use Rattle.asm_line.specs.Span.{rest_of}
use Rattle.asm_line.specs.Operand.{number_at, is_blank, ◌>>=◌}
use Rattle.asm_line.specs.Statement.{numbers_at}

-- numbers after others
abbrev pub with_front : List ℕ → Option (List ℕ) → Option (List ℕ)
with_front front numbers = option_map (λ more. front ++ more) numbers

regroup : (front : List ℕ) (n : ℕ) (numbers : Option (List ℕ)) → with_front front (numbers >>= λ more. Some (n ∷ more)) ≡ with_front (front ++ n ∷ []) numbers
regroup front n None = refl
regroup front n (Some more) = ap Some (simp append_assoc)

pub one_more : (front rest after : List ℕ) (count n : ℕ) → Some (n, after) ≡ number_at (rest_of class.Blank rest)
    → with_front front (numbers_at (suc count) rest) ≡ with_front (front ++ n ∷ []) (numbers_at count after)
unfolding numbers_at
one_more front rest after count n is =
    ap (λ (x : Option (ℕ × List ℕ)). with_front front (x >>= λ y. numbers_at count y.1 >>= λ more. Some (y.0 ∷ more))) (sym is)
    ∙ regroup front n (numbers_at count after)

pub no_more : (front rest : List ℕ) (count : ℕ) → None ≡ number_at (rest_of class.Blank rest) → with_front front (numbers_at (suc count) rest) ≡ None
unfolding numbers_at
no_more front rest count is = ap (λ (x : Option (ℕ × List ℕ)). with_front front (x >>= λ y. numbers_at count y.1 >>= λ more. Some (y.0 ∷ more))) (sym is)

pub ends : (numbers rest : List ℕ) → with_front numbers (numbers_at 0 rest) ≡ cond (is_blank rest) (Some numbers) None
unfolding numbers_at
ends numbers rest = elim (is_blank rest) as (λ b. with_front numbers (cond b (Some []) None) ≡ cond b (Some numbers) None) [ true ↦ ap Some (append-nil numbers) | false ↦ refl ]
