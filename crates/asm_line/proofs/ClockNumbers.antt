-- Twelve numbers that the clock may start with.
use Rattle.std.proofs.Common.{◌≡◌, ℕ, zero, suc, ◌<◌, Bool, true, false, cond, List, [], ◌∷◌, length, nat_lt, Option, Some, None, Result, Ok, Err, refl, sym, ap, subst, ◌∙◌, inl, inr}
use Rattle.std.specs.Prelude.{All}
use Rattle.std.specs.List.{list_all}
use Rattle.std.specs.Option.{SomeIff, ok_or}
use Rattle.std.proofs.lemmas.Bool.{and_parts, and_from, ltb-true, lt-ltb, eqb-true, eq-eqb, cases_Bool}
use Rattle.std.proofs.lemmas.List.Elements.{All-nil, All-cons}
use Rattle.r3k_image.specs.Boot.{IsClockStart}
use Rattle.asm_line.specs.declared.kind.AsmKind.{AsmKind}
use Rattle.asm_line.specs.declared.kind.AsmKind.TheVariants as kind
use Rattle.asm_line.specs.declared.span.Class.TheVariants as class
use Rattle.asm_line.specs.Span.{rest_of}
use Rattle.asm_line.specs.Operand.{number_at, is_blank, ◌>>=◌}
use Rattle.asm_line.specs.Statement.{numbers_at, is_start, clock_of, or_fault, ◌>>=◌ as ◌>>=!◌}

is_long : (b : Bool) (ns : List ℕ) → ◌≡◌ {A = Option (List ℕ)} (cond b (Some []) None) (Some ns) → length ns ≡ 0
is_long true ns e = let same : [] ≡ ns = cc in ap length (sym same)
is_long false ns e = absurd cc

-- n numbers
pub numbers_len : (n : ℕ) (text ns : List ℕ) → numbers_at n text ≡ Some ns → length ns ≡ n
unfolding numbers_at
numbers_len zero text ns e = is_long (is_blank text) ns e
numbers_len (suc n) text ns e = first (number_at (rest_of class.Blank text)) ns (λ rest ms. numbers_len n rest ms) e
  where
    second : (k : ℕ) (numbers : Option (List ℕ)) (ns : List ℕ) → ((ms : List ℕ) → numbers ≡ Some ms → length ms ≡ n) → (numbers >>= λ more. Some (k ∷ more)) ≡ Some ns → length ns ≡ suc n
    second k None ns h e = absurd cc
    second k (Some ms) ns h e = let same : k ∷ ms ≡ ns = cc in sym (ap length same) ∙ ap suc (h ms refl)

    first : (x : Option (ℕ × List ℕ)) (ns : List ℕ) → ((rest ms : List ℕ) → numbers_at n rest ≡ Some ms → length ms ≡ n)
        → (x >>= λ y. numbers_at n y.1 >>= λ more. Some (y.0 ∷ more)) ≡ Some ns → length ns ≡ suc n
    first None ns h e = absurd cc
    first (Some y) ns h e = second y.0 (numbers_at n y.1) ns (h y.1) e

all_bytes : (ns : List ℕ) → list_all (λ n. nat_lt n 256) ns ≡ true → All (λ n. n < 256) ns
all_bytes [] e = All-nil (λ n. n < 256)
all_bytes (n ∷ ns) e = let h = and_parts _ _ e in All-cons (λ n. n < 256) n ns (ltb-true _ _ h.0) (all_bytes ns h.1)

is_good : (ns : List ℕ) → length ns ≡ 12 → is_start ns ≡ true → IsClockStart ns
is_good ns len e =
    let h = and_parts _ _ e in
    let g = and_parts _ _ h.1 in
    record { count = len; bytes = all_bytes ns h.0; register_a = ltb-true _ _ g.0; register_b = eqb-true _ _ g.1 }

abbrev pub judged : List ℕ → Result (List ℕ) AsmKind
judged ns = cond (is_start ns) (Ok ns) (Err kind.Number)

-- what the image's test shows of numbers that are bytes
pub started : (ns : List ℕ) (o : Option (List ℕ)) → length ns ≡ 12 → list_all (λ n. nat_lt n 256) ns ≡ true → SomeIff o (IsClockStart ns) ns → ok_or o kind.Number ≡ judged ns
started ns (Some x) len all h =
    let yes_is : is_start ns ≡ true = and_from _ _ all (and_from _ _ (lt-ltb _ _ h.0.register_a) (eq-eqb _ _ h.0.register_b)) in
    ap (λ (y : List ℕ). Ok y) h.1 ∙ sym (ap (λ b. cond b (Ok ns) (Err kind.Number)) yes_is)
started ns None len all h =
    elim (cases_Bool (is_start ns)) [
      | inl holds ↦ absurd (h (is_good ns len holds))
      | inr fails ↦ sym (ap (λ b. cond b (Ok ns) (Err kind.Number)) fails)
    ]

same_bytes : (b : Bool) (ns rs : List ℕ) → ◌≡◌ {A = Option (List ℕ)} (cond b (Some ns) None) (Some rs) → (b ≡ true) × (ns ≡ rs)
same_bytes true ns rs e = (refl, let same : ns ≡ rs = cc in same)
same_bytes false ns rs e = absurd cc

-- the numbers in a text, as what the clock starts with
pub clock_is : (text ns rs : List ℕ) (o : Option (List ℕ)) → numbers_at 12 text ≡ Some ns → cond (list_all (λ n. nat_lt n 256) ns) (Some ns) None ≡ Some rs
    → SomeIff o (IsClockStart rs) rs → ok_or o kind.Number ≡ clock_of text
unfolding clock_of
clock_is text ns rs o found are h =
    let s = same_bytes (list_all (λ n. nat_lt n 256) ns) ns rs are in
    started ns o (numbers_len 12 text ns found) s.0 (subst (λ (xs : List ℕ). SomeIff o (IsClockStart xs) xs) (sym s.1) h)
    ∙ sym (ap (λ (x : Option (List ℕ)). or_fault kind.Syntax x >>=! judged) found)
