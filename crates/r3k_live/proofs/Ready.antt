-- The pages in which quick steps may go on at once, as a record changes.
use Rattle.std.proofs.Common.{◌≡◌, ℕ, zero, suc, ◌+◌, ◌≤◌, Bool, true, false, ◌||◌, IsTrue, List, nat_eq, slice_index, slice_set, length, length-set, refl, sym, subst, ap, ◌∙◌, arith, inl, inr}
use Rattle.std.proofs.lemmas.Bool.{cases_lt, eqb-true}
use Rattle.std.proofs.lemmas.List.{get_or-set_other, get_or-set_same, get_or_past}
use Rattle.r3k_pages.specs.Pages.{holds}
use Rattle.r3k_pages.proofs.Set.{which}
use Rattle.r3k_live.specs.Recording.{IsReady, Recording}

-- what a record has of them holds
abbrev pub AreReady : (pages : ℕ) → List ℕ → Recording → Type 0
AreReady pages ready r = (number page : ℕ) → slice_index ready number ≡ page + 1 → IsReady pages number page r

-- where all are taken out in which the PC was
pub none_ready : (pages : ℕ) (ready left : List ℕ) (r later : Recording) → AreReady pages ready r
    → ((number : ℕ) → nat_eq (slice_index left number) 0 ≡ (nat_eq (slice_index ready number) 0 || holds r.code_pages number))
    → AreReady pages left later
none_ready pages ready left r later are taken number page is = absurd (cases (slice_index ready number) refl)
  where
    or_true : (b : Bool) → (b || true) ≡ true
    or_true true = refl
    or_true false = refl

    out : IsTrue (nat_eq (slice_index left number) 0) → ⊥
    out none = let e = eqb-true (slice_index left number) 0 none in omega (arith, e, is)

    cases : (n : ℕ) → slice_index ready number ≡ n → ⊥
    cases zero none = out (taken number ∙ ap (λ (n : ℕ). nat_eq n 0 || holds r.code_pages number) none)
    cases (suc n) there =
        let stood = (are number n (there ∙ (let e : suc n ≡ n + 1 = omega arith in e))).stood in
        out (taken number ∙ (ap (λ (b : Bool). nat_eq (slice_index ready number) 0 || b) stood ∙ or_true (nat_eq (slice_index ready number) 0)))

-- where no page is taken from those that were touched, and in which the PC was
pub still_ready : (pages : ℕ) (ready : List ℕ) (r later : Recording) → AreReady pages ready r
    → ((page : ℕ) → IsTrue (holds r.touched page) → IsTrue (holds later.touched page))
    → ((number : ℕ) → IsTrue (holds r.code_pages number) → IsTrue (holds later.code_pages number))
    → AreReady pages ready later
still_ready pages ready r later are touched stood number page is =
    let ready = are number page is in record {
      within = ready.within;
      fetched = ready.fetched;
      touched = touched page ready.touched;
      stood = stood number ready.stood;
    }

-- with one more
pub one_more_ready : (pages : ℕ) (ready more : List ℕ) (number page : ℕ) (r : Recording) → more ≡ slice_set ready number (page + 1)
    → AreReady pages ready r → IsReady pages number page r → AreReady pages more r
one_more_ready pages ready more number page r made are new other at is =
    elim (which other number) [
      | inr apart ↦ are other at (sym (get_or-set_other ready number other (page + 1) 0 apart) ∙ there)
      | inl here ↦
          let now : slice_index (slice_set ready number (page + 1)) number ≡ at + 1 = ap (slice_index (slice_set ready number (page + 1))) (sym here) ∙ there in
          subst (λ (n : ℕ). IsReady pages n at r) (sym here) (subst (λ (n : ℕ). IsReady pages number n r) (same now) new)
    ]
  where
    there : slice_index (slice_set ready number (page + 1)) other ≡ at + 1
    there = ap (λ (pages : List ℕ). slice_index pages other) (sym made) ∙ is

    same : slice_index (slice_set ready number (page + 1)) number ≡ at + 1 → page ≡ at
    same now =
        elim (cases_lt number (length ready)) [
          | inl within ↦ let there = get_or-set_same ready number (page + 1) 0 within in omega (arith, there, now)
          | inr past ↦
              let none = get_or_past (slice_set ready number (page + 1)) number 0 (subst (λ (n : ℕ). n ≤ number) (sym (length-set ready number (page + 1))) past) in
              absurd (let e : ⊥ = omega (arith, none, now) in e)
        ]
