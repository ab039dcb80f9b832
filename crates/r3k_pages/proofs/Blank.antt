-- Pages of which all words are 0.
use Rattle.std.proofs.Common.{◌≡◌, ℕ, true, false, ◌&&◌, Bool, List, [], ◌∷◌, length, nat_eq, IsTrue, refl, sym, ◌∙◌, arith}
use Rattle.std.proofs.Math.Path.{ap₂}
use Rattle.std.proofs.lemmas.Bool.{eqb-true, true≢false}
use Rattle.r3k_pages.specs.Groups.{is_blank}

both : (a b : Bool) → IsTrue (a && b) → IsTrue a × IsTrue b
both true b h = (refl, h)
both false b h = absurd (true≢false (sym h))

-- two blank pages are the same
pub blank_same : (a b : List ℕ) → length a ≡ length b → IsTrue (is_blank a) → IsTrue (is_blank b) → a ≡ b
blank_same [] [] long first second = refl
blank_same [] (y ∷ b) long first second = absurd (let e : ⊥ = omega (arith, long) in e)
blank_same (x ∷ a) [] long first second = absurd (let e : ⊥ = omega (arith, long) in e)
blank_same (x ∷ a) (y ∷ b) long first second =
    let one = both (nat_eq x 0) (is_blank a) first in
    let other = both (nat_eq y 0) (is_blank b) second in
    ap₂ (λ (z : ℕ) (zs : List ℕ). z ∷ zs) (eqb-true x 0 one.0 ∙ sym (eqb-true y 0 other.0)) (blank_same a b (let e : length a ≡ length b = omega (arith, long) in e) one.1 other.1)
