-- Labels by their names: a tree of names is a map of texts.
use Rattle.std.proofs.Common.{◌≡◌, ℕ, Bool, true, false, cond, not, List, [], ◌∷◌, length, Option, Some, refl, sym, ap, subst, ◌∙◌, T}
use Rattle.std.specs.Prelude.{is_some}
use Rattle.std.specs.Borrow.{Bor}
use Rattle.std.specs.Ordering.{nat_cmp}
use Rattle.std.specs.Cmp.Lexicographic.{slice_cmp, nat_list_cmp_total}
use Rattle.std.specs.declared.cmp.Ordering.{Ordering}
use Rattle.std.specs.declared.cmp.Ordering.TheVariants.{Less, Equal, Greater}
use Rattle.std.specs.FinMap as map
use Rattle.std.specs.FinMap.{find, put, from_sorted, entries-from_sorted, entries-insert, same_entries_map, get-from_sorted, empty, empty_of_len, len-entries}
use Rattle.std.specs.FinMap.Entries.{by_order, is_sorted-put}
use Rattle.std.specs.BTreeMap.{insert_entry, is_at}
use Rattle.std.specs.Map.{lookup}
use Rattle.r3k_asm.specs.Labels.{names, AreSorted}

-- names are compared as text
abbrev pub order : List ℕ → List ℕ → Ordering
order = slice_cmp nat_cmp

abbrev pub compared : Bor (List ℕ) → Bor (List ℕ) → Ordering
compared x y = order x.now y.now

pub names-insert : (es : List (Bor (List ℕ) × ℕ)) (k : Bor (List ℕ)) (v : ℕ) → names (insert_entry compared es k v) ≡ put order k.now v (names es)
names-insert [] k v = refl
names-insert (e ∷ es) k v =
    elim (order k.now e.0.now) as (λ o. names (by_order o ((k, v) ∷ e ∷ es) ((e.0, v) ∷ es) (e ∷ insert_entry compared es k v))
    ≡ by_order o ((k.now, v) ∷ names (e ∷ es)) ((e.0.now, v) ∷ names es) ((e.0.now, e.1) ∷ put order k.now v (names es))) [
      | Less ↦ refl
      | Equal ↦ refl
      | Greater ↦ ap (λ (xs : List (List ℕ × ℕ)). (e.0.now, e.1) ∷ xs) (names-insert es k v)
    ]

is_T : (b : Bool) → b ≡ true → T b
is_T b e = subst T (sym e) tt

T_is : (b : Bool) → T b → b ≡ true
T_is true h = refl
T_is false h = absurd h

pub insert_keeps : (es : List (Bor (List ℕ) × ℕ)) (k : Bor (List ℕ)) (v : ℕ) → AreSorted (names es) → AreSorted (names (insert_entry compared es k v))
insert_keeps es k v h =
    subst AreSorted (sym (names-insert es k v)) (T_is _ (is_sorted-put order nat_list_cmp_total k.now v (names es) (is_T _ h)))

abbrev pub labels_of : List (Bor (List ℕ) × ℕ) → map.FinMap order ℕ
labels_of es = from_sorted (names es)

pub inserted : (es : List (Bor (List ℕ) × ℕ)) (k : Bor (List ℕ)) (v : ℕ) → AreSorted (names es) → labels_of (insert_entry compared es k v) ≡ map.insert (labels_of es) k.now v
inserted es k v h =
    same_entries_map (labels_of (insert_entry compared es k v)) (map.insert (labels_of es) k.now v)
    (entries-from_sorted order (names (insert_entry compared es k v)) (is_T _ (insert_keeps es k v h))
    ∙ names-insert es k v
    ∙ ap (put order k.now v) (sym (entries-from_sorted order (names es) (is_T _ h)))
    ∙ sym (entries-insert nat_list_cmp_total (labels_of es) k.now v))

looked_up : (q : Bor (List ℕ)) (es : List (Bor (List ℕ) × ℕ)) → lookup (is_at (compared q)) es ≡ find order q.now (names es)
looked_up q [] = refl
looked_up q (e ∷ es) = ap (cond (is_at (compared q) e.0) (Some e.1)) (looked_up q es)

pub got : (q : Bor (List ℕ)) (es : List (Bor (List ℕ) × ℕ)) → AreSorted (names es) → lookup (is_at (compared q)) es ≡ map.get (labels_of es) q.now
got q es h = looked_up q es ∙ sym (get-from_sorted order (names es) q.now (is_T _ h))

flipped : (a r : Bool) → a ≡ not r → r ≡ not a
flipped a true e = ap not (sym e)
flipped a false e = ap not (sym e)

pub was_none : (q : Bor (List ℕ)) (es : List (Bor (List ℕ) × ℕ)) (old : Option ℕ) (r : Bool) → AreSorted (names es) → is_some old ≡ not r → old ≡ lookup (is_at (compared q)) es
    → r ≡ not (map.contains_key (labels_of es) q.now)
was_none q es old r h is found = flipped (is_some old) r is ∙ ap (λ (o : Option ℕ). not (is_some o)) (found ∙ got q es h)

pub no_labels : (es : List (Bor (List ℕ) × ℕ)) → es ≡ [] → labels_of es ≡ map.empty
no_labels es none =
    ap labels_of none
    ∙ empty_of_len (labels_of []) (len-entries (labels_of []) ∙ ap length (entries-from_sorted order [] tt))
