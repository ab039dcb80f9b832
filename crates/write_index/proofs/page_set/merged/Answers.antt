use Rattle.std.proofs.Common.{◌≡◌, ◌+◌, ◌<◌, ◌++◌, ◌∷◌, [], slice_index, sym, subst, ◌≤◌, ◌⊎◌, inl, inr, List, ℕ, length, arith}
use Rattle.write_index.proofs.Merge.{IsMerged, merged_a, merged_all, merged_b, merged_both}
use Rattle.write_index.proofs.page_set.merged.Goals as goal
use Rattle.write_index.proofs.page_set.merged.Goals.{else-loop-i-test, else-x-y, then-x-y, then-loop-i-test+else-j-b}

pub returns : goal.returns
returns c =
    let past : (length c.args.a.now ≤ c.loop-i.i) ⊎ (length c.args.b.now ≤ c.loop-i.j) =
    elim c.loop-i-test.branch [
      | then-loop-i-test+else-j-b w ↦ inr (omega arith)
      | else-loop-i-test w ↦ inl (omega arith)
    ] in
    let all = merged_all c.args.a.now c.args.b.now c.loop-i.i c.loop-i.j c.loop-i.pages.items c.extend_from_slice.new.self.items c.extend_from_slice-2.new.self.items
    c.loop-i.invariant c.requires.a c.requires.b past (c.in_ok-extend_from_slice.ensures {u = tt}).items (c.in_ok-extend_from_slice-2.ensures {u = tt}).items in
    record { ascending = all.0; union = all.1 }

pub loop-i-preserved-then-y-x : goal.loop-i-preserved-then-y-x
loop-i-preserved-then-y-x c =
    let a = c.args.a.now in
    let b = c.args.b.now in
    let i = c.loop-i.i in
    let j = c.loop-i.j in
    let z = c.min.result in
    let pages = c.loop-i.pages.items in
    let in_b : slice_index b j ≡ z = omega (arith, c.min.ensures, c.if-y-x.true) in
    subst (λ (pages : List ℕ). IsMerged a b c.if-x-y.i (j + 1) pages) (sym (c.in_ok-push.ensures {u = tt}).items)
    (elim c.if-x-y.branch [
      | then-x-y w ↦
          let in_a : slice_index a i ≡ z = omega (arith, c.min.ensures, w.if-x-y.true) in
          subst (λ (i : ℕ). IsMerged a b i (j + 1) (pages ++ z ∷ [])) (sym w.i-is)
          (merged_both a b i j z pages c.loop-i.invariant c.requires.a c.requires.b c.loop-i-test.true c.if-j-b.true in_a in_b)
      | else-x-y w ↦
          let less : z < slice_index a i = omega (arith, in_b, w.if-x-y.false) in
          subst (λ (i : ℕ). IsMerged a b i (j + 1) (pages ++ z ∷ [])) (sym w.i-is)
          (merged_b a b i j z pages c.loop-i.invariant c.requires.b c.loop-i-test.true c.if-j-b.true in_b less)
    ])

pub loop-i-preserved : goal.loop-i-preserved
loop-i-preserved c =
    let a = c.args.a.now in
    let b = c.args.b.now in
    let i = c.loop-i.i in
    let j = c.loop-i.j in
    let z = c.min.result in
    let pages = c.loop-i.pages.items in
    let in_a : slice_index a i ≡ z = omega (arith, c.min.ensures, c.if-y-x.false) in
    let less : z < slice_index b j = omega (arith, in_a, c.if-y-x.false) in
    subst (λ (pages : List ℕ). IsMerged a b c.if-x-y.i j pages) (sym (c.in_ok-push.ensures {u = tt}).items)
    (elim c.if-x-y.branch [
      | then-x-y w ↦
          subst (λ (i : ℕ). IsMerged a b i j (pages ++ z ∷ [])) (sym w.i-is)
          (merged_a a b i j z pages c.loop-i.invariant c.requires.a c.loop-i-test.true c.if-j-b.true in_a less)
      | else-x-y w ↦ absurd (omega (arith, c.if-y-x.false, w.if-x-y.false))
    ])
