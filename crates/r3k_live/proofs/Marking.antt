-- The marks of what steps wrote ascend.
use Rattle.std.proofs.Common.{◌≡◌, ℕ, zero, suc, ◌+◌, ◌^◌, ◌<◌, ◌≤◌, Bool, true, false, if◌then◌else◌, List, [], ◌∷◌, ◌++◌, All, is_some, append_assoc, sym, subst, arith}
use Rattle.std.specs.List.Sorted.{IsStrictlyIncreasing}
use Rattle.std.proofs.lemmas.List.{append-nil}
use Rattle.std.proofs.lemmas.List.Elements.{All-append}
use Rattle.r3k_word.specs.declared.layout.TheConstants.{MAX_RAM_PAGES}
use Rattle.r3k_machine.specs.declared.step.Done.{Done}
use Rattle.r3k_machine.specs.declared.target.Target.TheVariants.{Register}
use Rattle.r3k_machine.specs.Run.{last_writer}
use Rattle.r3k_pages.proofs.Ascending.{pages_set}
use Rattle.r3k_live.specs.Marks.{mark_of, marks_of, registers_below}
use Rattle.r3k_live.specs.Record.{dirty_pages, is_dirty}
use Rattle.r3k_live.proofs.Writers.{one_more}

-- numbers that ascend, all below one
record Below (n : ℕ) (xs : List ℕ) : Type 0 where
  ascend : IsStrictlyIncreasing xs
  below : All (λ x. x < n) xs

one : (n : ℕ) → All (λ x. x < suc n) (n ∷ [])
one n zero d within = omega arith
one n (suc k) d within = absurd (let e : ⊥ = omega (arith, within) in e)

with_one : (xs : List ℕ) (n : ℕ) (there : Bool) → Below n xs → Below (suc n) (xs ++ (if there then n ∷ [] else []))
with_one xs n true before = record {
  ascend = one_more xs n before.ascend before.below;
  below = All-append (λ x. x < suc n) xs (n ∷ []) (λ k d within. let low = before.below k d within in omega (arith, low)) (one n);
}
with_one xs n false before =
    subst (Below (suc n)) (sym (append-nil xs))
    (record { ascend = before.ascend; below = λ k d within. let low = before.below k d within in omega (arith, low) })

with_registers : (front : List ℕ) (steps : List Done) (n : ℕ) → Below (2 ^ 20) front → Below (2 ^ 20 + n) (front ++ registers_below steps n)
unfolding registers_below
with_registers front steps zero before = subst (Below (2 ^ 20)) (sym (append-nil front)) before
with_registers front steps (suc n) before =
    let there = is_some (last_writer (Register n) steps) in
    subst (Below (2 ^ 20 + suc n)) (append_assoc front (registers_below steps n) (if there then mark_of (Register n) ∷ [] else []))
    (subst (λ (k : ℕ). Below k (front ++ registers_below steps n ++ (if there then mark_of (Register n) ∷ [] else []))) (let e : suc (2 ^ 20 + n) ≡ 2 ^ 20 + suc n = omega arith in e)
    (with_one (front ++ registers_below steps n) (2 ^ 20 + n) there (with_registers front steps n before)))

pub marks_ascend : (pages : ℕ) (steps : List Done) → pages ≤ MAX_RAM_PAGES → IsStrictlyIncreasing (marks_of pages steps)
marks_ascend pages steps few =
    let set = pages_set pages (is_dirty steps) in
    (with_registers (dirty_pages pages steps) steps 34
    (record { ascend = set.ascending; below = λ k d within. let low = set.within k d within in omega (arith, low, few) })).ascend
