-- A word is put among others in ascending order.
use Rattle.std.proofs.Common.{◌≡◌, ℕ, ◌+◌, Bool, true, false, cond, not, List, [], ◌∷◌, Option, Some, refl, sym, ap, subst, ◌∙◌, arith, inl, inr}
use Rattle.std.specs.Prelude.{is_some}
use Rattle.std.specs.Ordering.{nat_cmp}
use Rattle.std.specs.declared.cmp.Ordering.{Ordering}
use Rattle.std.specs.declared.cmp.Ordering.TheVariants.{Less, Equal, Greater}
use Rattle.std.specs.Cmp.{nat_cmp_is, nat_cmp_total}
use Rattle.std.specs.FinMap as map
use Rattle.std.specs.FinMap.{find, put, from_entries, entries-insert, same_entries_map, get-from_entries}
use Rattle.std.specs.FinMap.Entries.{by_order}
use Rattle.std.specs.BTreeMap.{insert_entry, is_at}
use Rattle.std.specs.Map.{lookup}
use Rattle.std.proofs.lemmas.Bool.{cases_lt, cases_eq}
use Rattle.r3k_image.specs.Entries.{IsPlaced, AreEntries}
use Rattle.r3k_image.proofs.SetWords.{entries_of_words}

insert_is_put : (es : List (ℕ × ℕ)) (k v : ℕ) → insert_entry nat_cmp es k v ≡ put nat_cmp k v es
insert_is_put [] k v = refl
insert_is_put (e ∷ es) k v =
    elim (nat_cmp k e.0) as (λ o. by_order o ((k, v) ∷ e ∷ es) ((e.0, v) ∷ es) (e ∷ insert_entry nat_cmp es k v) ≡ by_order o ((k, v) ∷ e ∷ es) ((e.0, v) ∷ es) (e ∷ put nat_cmp k v es)) [
      | Less ↦ refl
      | Equal ↦ refl
      | Greater ↦ ap (λ (xs : List (ℕ × ℕ)). e ∷ xs) (insert_is_put es k v)
    ]

pub at_order : (e : ℕ × ℕ) (es : List (ℕ × ℕ)) (k v : ℕ) (o : Ordering) → o ≡ nat_cmp k e.0
    → put nat_cmp k v (e ∷ es) ≡ by_order o ((k, v) ∷ e ∷ es) ((e.0, v) ∷ es) (e ∷ put nat_cmp k v es)
at_order e es k v o is = ap (λ (r : Ordering). by_order r ((k, v) ∷ e ∷ es) ((e.0, v) ∷ es) (e ∷ put nat_cmp k v es)) (sym is)

put_keeps : (start : ℕ) (es : List (ℕ × ℕ)) (k v : ℕ) → IsPlaced start k v → AreEntries start es → AreEntries start (put nat_cmp k v es)
put_keeps start [] k v p h = (p, tt)
put_keeps start (e ∷ es) k v p h =
    let q = h.0 in
    elim (cases_lt k e.0) [
      | inl lt ↦
          subst (AreEntries start) (sym (at_order e es k v Less (nat_cmp_is k e.0 Less lt)))
          (p, (record { aligned = q.aligned; after = omega (arith, p.aligned, q.aligned, lt); inside = q.inside; fits = q.fits }, h.1))
      | inr ge ↦ elim (cases_eq k e.0) [
        | inl same ↦
            subst (AreEntries start) (sym (at_order e es k v Equal (nat_cmp_is k e.0 Equal same)))
            (record { aligned = q.aligned; after = q.after; inside = q.inside; fits = p.fits }, h.1)
        | inr other ↦
            subst (AreEntries start) (sym (at_order e es k v Greater (nat_cmp_is k e.0 Greater (omega arith))))
            (q, put_keeps (e.0 + 4) es k v (record { aligned = p.aligned; after = omega (arith, p.aligned, q.aligned, ge, other); inside = p.inside; fits = p.fits }) h.1)
      ]
    ]

pub insert_keeps : (es : List (ℕ × ℕ)) (k v : ℕ) → IsPlaced 0 k v → AreEntries 0 es → AreEntries 0 (insert_entry nat_cmp es k v)
insert_keeps es k v p h = subst (AreEntries 0) (sym (insert_is_put es k v)) (put_keeps 0 es k v p h)

pub inserted : (es : List (ℕ × ℕ)) (k v : ℕ) → IsPlaced 0 k v → AreEntries 0 es
    → from_entries {R = nat_cmp} (insert_entry nat_cmp es k v) ≡ map.insert (from_entries es) k v
inserted es k v p h =
    same_entries_map (from_entries {R = nat_cmp} (insert_entry nat_cmp es k v)) (map.insert (from_entries es) k v)
    (entries_of_words 0 (insert_entry nat_cmp es k v) (insert_keeps es k v p h)
    ∙ insert_is_put es k v
    ∙ ap (put nat_cmp k v) (sym (entries_of_words 0 es h))
    ∙ sym (entries-insert nat_cmp_total (from_entries es) k v))

pub put_in_map : (es : List (ℕ × ℕ)) (k v : ℕ) → IsPlaced 0 k v → AreEntries 0 es → from_entries {R = nat_cmp} (put nat_cmp k v es) ≡ map.insert (from_entries es) k v
put_in_map es k v p h = ap from_entries (sym (insert_is_put es k v)) ∙ inserted es k v p h

lookup_is_find : (q : ℕ) (es : List (ℕ × ℕ)) → lookup (is_at (nat_cmp q)) es ≡ find nat_cmp q es
lookup_is_find q [] = refl
lookup_is_find q (e ∷ es) = ap (cond (is_at (nat_cmp q) e.0) (Some e.1)) (lookup_is_find q es)

flipped : (a r : Bool) → a ≡ not r → r ≡ not a
flipped a true e = ap not (sym e)
flipped a false e = ap not (sym e)

pub was_none : (q : ℕ) (es : List (ℕ × ℕ)) (old : Option ℕ) (r : Bool) → is_some old ≡ not r → old ≡ lookup (is_at (nat_cmp q)) es
    → r ≡ not (is_some (map.get (from_entries {R = nat_cmp} es) q))
was_none q es old r is found =
    flipped (is_some old) r is ∙ ap (λ (o : Option ℕ). not (is_some o)) (found ∙ lookup_is_find q es ∙ sym (get-from_entries nat_cmp_total es q))
