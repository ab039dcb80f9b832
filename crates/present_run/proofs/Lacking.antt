-- The number of spans that lack a record.
use Rattle.std.proofs.Common.{◌≡◌, inl, inr, ℕ, zero, suc, ◌+◌, ◌-◌, ◌*◌, ◌≤◌, leb, refl, sym, ◌∙◌, subst, arith}
use Rattle.std.proofs.Math.Nat.{mul-le-mul_right}
use Rattle.std.proofs.lemmas.Bool.{cases_Bool, leb-true, leb-false}
use Rattle.present_run.specs.Reuse.{Holding, Lacks, Serves}

pub lacks_one : (pages span : ℕ) (h : Holding) (count a b : ℕ) → Lacks pages span h count a → Lacks pages span h count b → a ≡ b
unfolding Lacks
lacks_one pages span h zero a b f g = f ∙ sym g
lacks_one pages span h (suc index) a b (inl f) (inl g) = lacks_one pages span h index a b f.1 g.1
lacks_one pages span h (suc index) a b (inl f) (inr g) = absurd (g.0 f.0)
lacks_one pages span h (suc index) a b (inr f) (inl g) = absurd (f.0 g.0)
lacks_one pages span h (suc index) a b (inr f) (inr g) =
    let rest = lacks_one pages span h index (a - 1) (b - 1) f.2 g.2 in omega (arith, rest, f.1, g.1)

pub lacks_most : (pages span : ℕ) (h : Holding) (count lacking : ℕ) → Lacks pages span h count lacking → lacking ≤ count
unfolding Lacks
lacks_most pages span h zero lacking f = omega (arith, f)
lacks_most pages span h (suc index) lacking (inl f) = let rest = lacks_most pages span h index lacking f.1 in omega (arith, rest)
lacks_most pages span h (suc index) lacking (inr f) = let rest = lacks_most pages span h index (lacking - 1) f.2 in omega (arith, rest, f.1)

-- with one span more, which has a record that serves or has none
with_one : (pages span : ℕ) (h : Holding) (index lacking : ℕ) → Serves pages span h index → Lacks pages span h index lacking → Lacks pages span h (suc index) lacking
unfolding Lacks
with_one pages span h index lacking serves lacks = inl (serves, lacks)

without_one : (pages span : ℕ) (h : Holding) (index lacking : ℕ) → ¬ Serves pages span h index → Lacks pages span h index lacking → Lacks pages span h (suc index) (lacking + 1)
unfolding Lacks
without_one pages span h index lacking none lacks =
    inr (none, omega arith, subst (λ (n : ℕ). Lacks pages span h index n) (let e : lacking ≡ lacking + 1 - 1 = omega arith in e) lacks)

at_first : (pages span : ℕ) (h : Holding) → Lacks pages span h 0 0
unfolding Lacks
at_first pages span h = refl

pub lacks_some : (pages span : ℕ) (h : Holding) (count : ℕ) → ¬ ¬ ((lacking : ℕ) × Lacks pages span h count lacking)
lacks_some pages span h zero none = none (0, at_first pages span h)
lacks_some pages span h (suc index) none =
    lacks_some pages span h index (λ some.
    let not : ¬ Serves pages span h index = λ serves. none (some.0, with_one pages span h index some.0 serves some.1) in
    none (some.0 + 1, without_one pages span h index some.0 not some.1))

pub bounded : (pages span : ℕ) (h : Holding) (count cost more : ℕ) → ((lacking : ℕ) → Lacks pages span h count lacking → cost ≤ lacking * span + more) → cost ≤ count * span + more
bounded pages span h count cost more each =
    elim (cases_Bool (leb cost (count * span + more))) [
      | inl within ↦ leb-true _ _ within
      | inr past ↦ absurd (lacks_some pages span h count (λ some.
          let less : some.0 * span ≤ count * span = mul-le-mul_right span (lacks_most pages span h count some.0 some.1) in
          let most = each some.0 some.1 in
          let more_than = leb-false _ _ past in
          omega (arith, less, most, more_than)))
    ]
