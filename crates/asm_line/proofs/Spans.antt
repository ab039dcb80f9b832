-- A text is split where a class ends.
use Rattle.std.proofs.Common.{◌≡◌, ℕ, zero, suc, ◌<◌, ◌≤◌, true, false, cond, List, [], ◌∷◌, length, get_or, take, drop, refl, ap, ◌∙◌, arith}
use Rattle.asm_line.specs.declared.span.Class.{Class}
use Rattle.asm_line.specs.Span.{is_in, front_of, rest_of}

-- the front up to a place is of the class, and the byte there is not
pub record EndsAt (class : Class) (text : List ℕ) (place : ℕ) : Type 0 where
  pub within : place ≤ length text
  pub before : (k : ℕ) → k < place → is_in class (get_or text k 0) ≡ true
  pub at : place < length text → is_in class (get_or text place 0) ≡ false

pub front : (class : Class) (text : List ℕ) (place : ℕ) → EndsAt class text place → front_of class text ≡ take place text
unfolding front_of
front class [] zero h = refl
front class [] (suc place) h = absurd (omega (arith, h.within))
front class (b ∷ bs) zero h = ap (λ t. cond t (b ∷ front_of class bs) []) (h.at (omega arith))
front class (b ∷ bs) (suc place) h =
    ap (λ t. cond t (b ∷ front_of class bs) []) (h.before 0 (omega arith))
    ∙ ap (λ (xs : List ℕ). b ∷ xs)
    (front class bs place (record { within = omega (arith, h.within); before = λ k lt. h.before (suc k) (omega arith); at = λ lt. h.at (omega arith) }))

pub rest : (class : Class) (text : List ℕ) (place : ℕ) → EndsAt class text place → rest_of class text ≡ drop place text
unfolding rest_of
rest class [] zero h = refl
rest class [] (suc place) h = absurd (omega (arith, h.within))
rest class (b ∷ bs) zero h = ap (λ t. cond t (rest_of class bs) (b ∷ bs)) (h.at (omega arith))
rest class (b ∷ bs) (suc place) h =
    ap (λ t. cond t (rest_of class bs) (b ∷ bs)) (h.before 0 (omega arith))
    ∙ rest class bs place (record { within = omega (arith, h.within); before = λ k lt. h.before (suc k) (omega arith); at = λ lt. h.at (omega arith) })
