-- The last span that has a page, level by level.
use Rattle.std.proofs.Common.{◌≡◌, ℕ, zero, suc, ◌+◌, ◌*◌, ◌/◌, ◌^◌, ◌<◌, ◌≤◌, ◌⊎◌, Bool, true, false, ◌||◌, IsFalse, IsTrue, Option, None, Some, min, take, List, [], ◌∷◌, refl, sym, ap, ◌∙◌, subst, arith, inl, inr}
use Rattle.std.proofs.lemmas.Bool.{true≢false, cases_lt}
use Rattle.std.proofs.Math.Nat.{pow-suc}
use Rattle.std.proofs.lemmas.List.{get_or-take, get_or_past, length-take}
use Rattle.r3k_pages.proofs.Kept.{neither}
use Rattle.r3k_pages.specs.Pages.{holds}
use Rattle.write_index.specs.Pages.{IsLast, pages_at}
use Rattle.write_index.specs.Tree.{IsTree, bottom}

first_then : (a b : Bool) → (a || b) ≡ true → b ≡ false → a ≡ true
first_then true b is none = refl
first_then false b is none = absurd (true≢false (sym is ∙ none))

two : (m : ℕ) → (m ≡ 2 * (m / 2)) ⊎ (m ≡ 2 * (m / 2) + 1)
two m =
    elim (cases_lt (2 * (m / 2)) m) [
      | inl less ↦ inr (omega (arith, less))
      | inr same ↦ inl (omega (arith, same))
    ]

-- no node after the last pair has the page
abbrev pub NoneOdd : List (List ℕ) → ℕ → ℕ → Type 0
NoneOdd level page end = (m : ℕ) → 2 * (end / 2) ≤ m → m < end → IsFalse (holds (pages_at level m) page)

not_held : (level : List (List ℕ)) (above : List (List (List ℕ))) (end page m : ℕ) → IsTree end (level ∷ above) → NoneOdd level page end → m < end
    → (m / 2 < end / 2 → IsFalse (holds (pages_at (bottom above) (m / 2)) page)) → holds (pages_at level m) page ≡ false
not_held level above end page m tree odd within pair =
    elim (cases_lt (m / 2) (end / 2)) [
      | inl inside ↦
          let none = neither (holds (pages_at level (2 * (m / 2))) page) (holds (pages_at level (2 * (m / 2) + 1)) page) (sym (tree.0.unions (m / 2) inside page) ∙ pair inside) in
          elim (two m) [
            | inl first ↦ ap (λ (n : ℕ). holds (pages_at level n) page) first ∙ none.0
            | inr second ↦ ap (λ (n : ℕ). holds (pages_at level n) page) second ∙ none.1
          ]
      | inr beyond ↦ odd m (omega (arith, beyond)) within
    ]

pub last_none : (levels : List (List (List ℕ))) (level : List (List ℕ)) (above : List (List (List ℕ))) (end page : ℕ) → levels ≡ level ∷ above → IsTree end levels
    → NoneOdd level page end → ((m : ℕ) → m < end / 2 → IsFalse (holds (pages_at (bottom above) m) page))
    → (m : ℕ) → m < end → IsFalse (holds (pages_at (bottom levels) m) page)
last_none levels level above end page is tree odd none m within =
    subst (λ levels. IsFalse (holds (pages_at (bottom levels) m) page)) (sym is)
    (not_held level above end page m (subst (λ levels. IsTree end levels) is tree) odd within (λ inside. none (m / 2) inside))

after_pair : (level : List (List ℕ)) (above : List (List (List ℕ))) (end page pair m : ℕ) → IsTree end (level ∷ above) → NoneOdd level page end
    → ((i : ℕ) → pair < i → i < end / 2 → IsFalse (holds (pages_at (bottom above) i) page))
    → 2 * pair + 1 < m → m < end → holds (pages_at level m) page ≡ false
after_pair level above end page pair m tree odd rest beyond within =
    not_held level above end page m tree odd within (λ inside. rest (m / 2) (omega (arith, beyond)) inside)

pub last_second : (levels : List (List (List ℕ))) (level : List (List ℕ)) (above : List (List (List ℕ))) (end page pair : ℕ) → levels ≡ level ∷ above → IsTree end levels
    → NoneOdd level page end → IsLast (bottom above) page (end / 2) (Some pair) → IsTrue (holds (pages_at level (2 * pair + 1)) page)
    → IsLast (bottom levels) page end (Some (2 * pair + 1))
last_second levels level above end page pair is tree odd last second =
    let here = subst (λ levels. IsTree end levels) is tree in
    subst (λ levels. IsLast (bottom levels) page end (Some (2 * pair + 1))) (sym is)
    (omega (arith, last.0), second, λ m beyond within. after_pair level above end page pair m here odd last.2 beyond within)

pub last_first : (levels : List (List (List ℕ))) (level : List (List ℕ)) (above : List (List (List ℕ))) (end page pair : ℕ) → levels ≡ level ∷ above → IsTree end levels
    → NoneOdd level page end → IsLast (bottom above) page (end / 2) (Some pair) → IsFalse (holds (pages_at level (2 * pair + 1)) page)
    → IsLast (bottom levels) page end (Some (2 * pair))
last_first levels level above end page pair is tree odd last second =
    let here = subst (λ levels. IsTree end levels) is tree in
    subst (λ levels. IsLast (bottom levels) page end (Some (2 * pair))) (sym is) (
      omega (arith, last.0),
      first_then (holds (pages_at level (2 * pair)) page) (holds (pages_at level (2 * pair + 1)) page) (sym (here.0.unions pair last.0 page) ∙ last.1) second,
      λ m beyond within.
          elim (cases_lt (2 * pair + 1) m) [
            | inl further ↦ after_pair level above end page pair m here odd last.2 further within
            | inr same ↦
                let is : m ≡ 2 * pair + 1 = omega (arith, beyond, same) in
                ap (λ (n : ℕ). holds (pages_at level n) page) is ∙ second
          ],
    )

-- how many binary digits the half of a number has
pub fewer_digits : (end digits : ℕ) → 0 < end → end < 2 ^ digits → (d : ℕ) × (digits ≡ suc d) × (end / 2 < 2 ^ d)
fewer_digits end zero some small = absurd (omega (arith, some, small))
fewer_digits end (suc d) some small = (d, refl, let twice = pow-suc 2 d in omega (arith, small, twice))

-- spans after the held ones have no pages
pub last_held : (sets : List (List ℕ)) (held page before end : ℕ) (found : Option ℕ) → end ≡ min held before → IsLast sets page end found
    → IsLast (take held sets) page before found
last_held sets held page before end found is last = go found last
  where
    after : (from : ℕ) → ((i : ℕ) → from ≤ i → i < end → IsFalse (holds (pages_at sets i) page)) → (i : ℕ) → from ≤ i → i < before
        → IsFalse (holds (pages_at (take held sets) i) page)
    after from none i beyond within =
        elim (cases_lt i held) [
          | inl inside ↦ subst (λ (set : List ℕ). IsFalse (holds set page)) (sym (get_or-take held sets i [] inside)) (none i beyond (omega (arith, is, inside, within)))
          | inr past ↦ subst (λ (set : List ℕ). IsFalse (holds set page)) (sym (get_or_past (take held sets) i [] (rw (length-take held sets) (omega (arith, past))))) refl
        ]

    go : (found : Option ℕ) → IsLast sets page end found → IsLast (take held sets) page before found
    go None last = λ i within. after 0 (λ i _. last i) i (omega arith) within
    go (Some span) last = (
      omega (arith, is, last.0),
      subst (λ (set : List ℕ). IsTrue (holds set page)) (sym (get_or-take held sets span [] (omega (arith, is, last.0)))) last.1,
      λ i beyond within. after (span + 1) (λ i further. last.2 i (omega (arith, further))) i (omega (arith, beyond)) within,
    )
