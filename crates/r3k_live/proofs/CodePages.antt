-- In which pages the PC is, as a run goes on.
use Rattle.std.proofs.Common.{◌≡◌, ◌⊎◌, ◌↔◌, ℕ, ◌+◌, ◌/◌, ◌≤◌, Bool, true, false, ◌||◌, IsTrue, List, nat_eq, inl, inr, refl, sym, subst, ap, ◌∙◌, arith}
use Rattle.std.proofs.lemmas.Bool.{cases_lt, eq-eqb, eqb-true}
use Rattle.input_log.specs.Event.{LogEvent}
use Rattle.r3k_word.specs.declared.layout.TheConstants.{PAGE_BYTES}
use Rattle.r3k_machine.specs.Run.{run}
use Rattle.r3k_machine.specs.State.{State}
use Rattle.r3k_pages.specs.Pages.{holds}
use Rattle.r3k_live.specs.CodePages.{BeginsIn, AddsCodePages, RunsIn}

-- a set with one page more
pub with_one : (before after : List ℕ) (one page : ℕ) → holds after page ≡ (holds before page || nat_eq one page)
    → IsTrue (holds after page) ↔ (IsTrue (holds before page) ⊎ (one ≡ page))
with_one before after one page is = (
  λ held. cases (holds before page) (sym is ∙ held),
  λ either.
      is ∙ elim either [
        | inl there ↦ rw there refl
        | inr here ↦ rw (eq-eqb one page here) (or_true (holds before page))
      ],
)
  where
    or_true : (b : Bool) → (b || true) ≡ true
    or_true true = refl
    or_true false = refl

    cases : (b : Bool) → (b || nat_eq one page) ≡ true → IsTrue b ⊎ (one ≡ page)
    cases true held = inl refl
    cases false held = inr (eqb-true one page held)

-- a page that is in a set already
pub with_same : (set : List ℕ) (page : ℕ) → IsTrue (holds set page) → (other : ℕ) → holds set other ≡ (holds set other || nat_eq page other)
with_same set page there other = cases (nat_eq page other) refl
  where
    or_false : (b : Bool) → (b || false) ≡ b
    or_false true = refl
    or_false false = refl

    cases : (b : Bool) → nat_eq page other ≡ b → holds set other ≡ (holds set other || b)
    cases true same =
        let here : holds set other ≡ true = subst (λ (n : ℕ). IsTrue (holds set n)) (eqb-true page other same) there in
        here ∙ sym (ap (λ (b : Bool). b || true) here)
    cases false apart = sym (or_false (holds set other))

-- the page of the start
pub first_code_page : (pages : ℕ) (log : List LogEvent) (from : ℕ) (start : State) (before after : List ℕ)
    → ((page : ℕ) → holds after page ≡ (holds before page || nat_eq (start.core.pc / PAGE_BYTES) page))
    → AddsCodePages pages log from start 0 before after
unfolding run
first_code_page pages log from start before after marked page = (
  λ held. forth (one.0 held),
  λ either. one.1 (back either),
)
  where
    one : IsTrue (holds after page) ↔ (IsTrue (holds before page) ⊎ (start.core.pc / PAGE_BYTES ≡ page))
    one = with_one before after (start.core.pc / PAGE_BYTES) page (marked page)

    forth : IsTrue (holds before page) ⊎ (start.core.pc / PAGE_BYTES ≡ page) → IsTrue (holds before page) ⊎ RunsIn pages log from start 0 page
    forth (inl there) = inl there
    forth (inr here) = inr (0, omega arith, here)

    back : IsTrue (holds before page) ⊎ RunsIn pages log from start 0 page → IsTrue (holds before page) ⊎ (start.core.pc / PAGE_BYTES ≡ page)
    back (inl there) = inl there
    back (inr stands) =
        inr (ap (λ (k : ℕ). (run pages log from start k).core.pc / PAGE_BYTES) (let e : 0 ≡ stands.0 = omega (arith, stands.1) in e) ∙ stands.2)

-- more steps, which all begin in the page where the first one does, and then the page of the PC after them
pub more_code_pages : (pages : ℕ) (log : List LogEvent) (from : ℕ) (start : State) (made more number : ℕ) (before mid after : List ℕ)
    → AddsCodePages pages log from start made before mid
    → BeginsIn pages log from start number made (made + more)
    → ((page : ℕ) → holds after page ≡ (holds mid page || nat_eq ((run pages log from start (made + more)).core.pc / PAGE_BYTES) page))
    → AddsCodePages pages log from start (made + more) before after
more_code_pages pages log from start made more number before mid after so_far begins marked page = (
  λ held. forth (one.0 held),
  λ either. one.1 (back either),
)
  where
    one : IsTrue (holds after page) ↔ (IsTrue (holds mid page) ⊎ ((run pages log from start (made + more)).core.pc / PAGE_BYTES ≡ page))
    one = with_one mid after ((run pages log from start (made + more)).core.pc / PAGE_BYTES) page (marked page)

    on : IsTrue (holds before page) ⊎ RunsIn pages log from start made page → IsTrue (holds before page) ⊎ RunsIn pages log from start (made + more) page
    on (inl old) = inl old
    on (inr stands) = inr (stands.0, omega (arith, stands.1), stands.2)

    forth : IsTrue (holds mid page) ⊎ ((run pages log from start (made + more)).core.pc / PAGE_BYTES ≡ page)
        → IsTrue (holds before page) ⊎ RunsIn pages log from start (made + more) page
    forth (inl there) = on ((so_far page).0 there)
    forth (inr here) = inr (made + more, omega arith, here)

    -- after a number of steps: as before, or in the page where the steps begin, or after the last one
    at : (k : ℕ) → k ≤ made + more → (run pages log from start k).core.pc / PAGE_BYTES ≡ page
        → IsTrue (holds mid page) ⊎ ((run pages log from start (made + more)).core.pc / PAGE_BYTES ≡ page)
    at k within here =
        elim (cases_lt made k) [
          | inr early ↦ inl ((so_far page).1 (inr (k, early, here)))
          | inl late ↦
              elim (cases_lt k (made + more)) [
                | inl inside ↦
                    inl ((so_far page).1 (inr (
                      made,
                      omega arith,
                      begins made (omega arith) (omega (arith, late, inside)) ∙ (sym (begins k (omega (arith, late)) inside) ∙ here),
                    )))
                | inr last ↦
                    inr (ap (λ (n : ℕ). (run pages log from start n).core.pc / PAGE_BYTES) (let e : made + more ≡ k = omega (arith, last, within) in e) ∙ here)
              ]
        ]

    back : IsTrue (holds before page) ⊎ RunsIn pages log from start (made + more) page
        → IsTrue (holds mid page) ⊎ ((run pages log from start (made + more)).core.pc / PAGE_BYTES ≡ page)
    back (inl old) = inl ((so_far page).1 (inl old))
    back (inr stands) = at stands.0 stands.1 stands.2

-- one step begins where it begins
pub begins_once : (pages : ℕ) (log : List LogEvent) (from : ℕ) (start : State) (made : ℕ)
    → BeginsIn pages log from start ((run pages log from start made).core.pc / PAGE_BYTES) made (made + 1)
begins_once pages log from start made k low high =
    ap (λ (n : ℕ). (run pages log from start n).core.pc / PAGE_BYTES) (let e : k ≡ made = omega (arith, low, high) in e)
