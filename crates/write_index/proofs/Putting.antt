-- A tree where a span is put, or room is made.
use Rattle.std.proofs.Common.{◌≡◌, ℕ, zero, suc, ◌+◌, ◌*◌, ◌/◌, ◌<◌, ◌≤◌, List, [], ◌∷◌, ◌++◌, length, length-set, take, max, Result, Ok, Err, OnErr, slice_set, refl, sym, ap, ◌∙◌, subst, arith, inl, inr}
use Rattle.std.proofs.Math.Path.{ap₂}
use Rattle.std.proofs.Math.Seq.{take-append_seam}
use Rattle.std.proofs.lemmas.Bool.{cases_eq, cases_lt}
use Rattle.std.proofs.lemmas.List.{get_or-set_same, get_or-set_other, get_or-take, get_or_past, length-take}
use Rattle.write_index.specs.Pages.{IsUnion, pages_at}
use Rattle.write_index.specs.declared.tree.TheConstants.{LEVELS}
use Rattle.write_index.specs.Tree.{Grown, HasRoom, IsIndex, IsLevel, IsLevelBut, IsPut, IsTree, IsTreeBut, Same, bottom}

union_of : (a b c a' b' c' : List ℕ) → a' ≡ a → b' ≡ b → c' ≡ c → IsUnion a b c → IsUnion a' b' c'
union_of a b c a' b' c' is_a is_b is_c union =
    subst (λ (x : List ℕ). IsUnion x b' c') (sym is_a) (subst (λ (x : List ℕ). IsUnion a x c') (sym is_b) (subst (λ (x : List ℕ). IsUnion a b x) (sym is_c) union))

other_unions : (level parents : List (List ℕ)) (node count : ℕ) (set : List ℕ) → IsLevelBut node count level parents
    → (m : ℕ) → m < count / 2 → ¬ (m ≡ node / 2)
    → IsUnion (pages_at (slice_set level node set) (2 * m)) (pages_at (slice_set level node set) (2 * m + 1)) (pages_at parents m)
other_unions level parents node count set but m within other =
    union_of _ _ _ _ _ _ (get_or-set_other level node (2 * m) set [] (λ e. other (omega (arith, e)))) (get_or-set_other level node (2 * m + 1) set [] (λ e. other (omega (arith, e)))) refl
    (but.unions m within other)

-- with the union above it
pub put_pair : (level old parents : List (List ℕ)) (node count : ℕ) (set both : List ℕ) → IsLevelBut node count level old
    → node / 2 < length old → parents ≡ slice_set old (node / 2) both
    → IsUnion (pages_at (slice_set level node set) (2 * (node / 2))) (pages_at (slice_set level node set) (2 * (node / 2) + 1)) both
    → IsLevel count (slice_set level node set) parents
put_pair level old parents node count set both but there put union = record {
  whole = omega (arith, but.whole, length-set level node set);
  unions = λ m within.
      elim (cases_eq m (node / 2)) [
        | inl here ↦
            subst (λ (n : ℕ). IsUnion (pages_at (slice_set level node set) (2 * n)) (pages_at (slice_set level node set) (2 * n + 1)) (pages_at parents n)) (sym here)
            (union_of _ _ _ _ _ _ refl refl (ap (λ (x : List (List ℕ)). pages_at x (node / 2)) put ∙ get_or-set_same old (node / 2) both [] there) union)
        | inr other ↦
            union_of _ _ _ _ _ _ refl refl (ap (λ (x : List (List ℕ)). pages_at x m) put ∙ get_or-set_other old (node / 2) m both [] other)
            (other_unions level old node count set but m within other)
      ];
}

-- without a union, since it is the first of a pair that isn't there
pub put_alone : (level parents : List (List ℕ)) (node count : ℕ) (set : List ℕ) → IsLevelBut node count level parents
    → count / 2 ≤ node / 2 → IsLevel count (slice_set level node set) parents
put_alone level parents node count set but beyond = record {
  whole = omega (arith, but.whole, length-set level node set);
  unions = λ m within. other_unions level parents node count set but m within (λ e. absurd (omega (arith, e, within, beyond)));
}

pub but_after : (levels : List (List (List ℕ))) (node count : ℕ) → count ≤ node → IsTreeBut node count levels → IsTree count levels
but_after [] node count beyond but = but
but_after (level ∷ above) node count beyond but = (
  record {
    whole = but.0.whole;
    unions = λ m within. but.0.unions m within (λ e. absurd (omega (arith, e, within, beyond)));
  },
  but_after above (node / 2) (count / 2) (omega (arith, beyond)) but.1,
)

pub but_room : (levels : List (List (List ℕ))) (node count : ℕ) → node < count → IsTreeBut node count levels → node < length (bottom levels)
but_room [] node count inside but = absurd (omega (arith, inside, but))
but_room (level ∷ above) node count inside but = omega (arith, inside, but.0.whole)

pub tree_but : (levels : List (List (List ℕ))) (count node more : ℕ) → ((m : ℕ) → m < more → ¬ (m ≡ node) → m < count) → HasRoom more levels → IsTree count levels
    → IsTreeBut node more levels
tree_but [] count node more others room tree = room
tree_but (level ∷ above) count node more others room tree =
    let pairs : (m : ℕ) → m < more / 2 → ¬ (m ≡ node / 2) → m < count / 2 =
    λ m within other.
    let one = others (2 * m + 1) (omega (arith, within)) (λ e. other (omega (arith, e))) in
    omega (arith, one) in (
      record { whole = room.0; unions = λ m within other. tree.0.unions m (pairs m within other) },
      tree_but above (count / 2) (node / 2) (more / 2) pairs room.1 tree.1,
    )

pub tree_none : (levels : List (List (List ℕ))) (count : ℕ) → count ≡ 0 → IsTree count levels
tree_none [] count none = none
tree_none (level ∷ above) count none = (
  record { whole = omega (arith, none); unions = λ m within. absurd (omega (arith, none, within)) },
  tree_none above (count / 2) (omega (arith, none)),
)

pub tree_less : (levels : List (List (List ℕ))) (count less : ℕ) → less ≤ count → IsTree count levels → IsTree less levels
tree_less [] count less below tree = omega (arith, below, tree)
tree_less (level ∷ above) count less below tree = (
  record { whole = omega (arith, below, tree.0.whole); unions = λ m within. tree.0.unions m (omega (arith, within, below)) },
  tree_less above (count / 2) (less / 2) (omega (arith, below)) tree.1,
)

pub tree_long : (levels : List (List (List ℕ))) (count : ℕ) → IsTree count levels → count ≤ length (bottom levels)
tree_long [] count tree = omega (arith, tree)
tree_long (level ∷ above) count tree = tree.0.whole

-- room
pub grown_same : (levels : List (List (List ℕ))) → Grown levels levels
grown_same [] = tt
grown_same (level ∷ above) = (record { long = omega arith; same = λ m within. refl }, grown_same above)

pub room_none : (levels : List (List (List ℕ))) (count : ℕ) → count ≡ 0 → HasRoom count levels
room_none [] count none = none
room_none (level ∷ above) count none = (omega (arith, none), room_none above (count / 2) (omega (arith, none)))

pub less_room : (levels : List (List (List ℕ))) (count less : ℕ) → less ≤ count → HasRoom count levels → HasRoom less levels
less_room [] count less below none = omega (arith, below, none)
less_room (level ∷ above) count less below room = (omega (arith, below, room.0), less_room above (count / 2) (less / 2) (omega (arith, below)) room.1)

pub grown_bottom : (old new : List (List (List ℕ))) (m : ℕ) → Grown old new → m < length (bottom old) → pages_at (bottom new) m ≡ pages_at (bottom old) m
grown_bottom [] [] m grown within = refl
grown_bottom [] (b ∷ new) m grown within = absurd grown
grown_bottom (a ∷ old) [] m grown within = absurd grown
grown_bottom (a ∷ old) (b ∷ new) m grown within = grown.0.same m within

pub tree_grown : (old new : List (List (List ℕ))) (count : ℕ) → Grown old new → IsTree count old → IsTree count new
tree_grown [] [] count grown tree = tree
tree_grown [] (b ∷ new) count grown tree = absurd grown
tree_grown (a ∷ old) [] count grown tree = absurd grown
tree_grown (a ∷ old) (b ∷ new) count grown tree = (
  record {
    whole = omega (arith, tree.0.whole, grown.0.long);
    unions = λ m within.
        let long = tree_long old (count / 2) tree.1 in
        union_of _ _ _ _ _ _ (grown.0.same (2 * m) (omega (arith, within, tree.0.whole))) (grown.0.same (2 * m + 1) (omega (arith, within, tree.0.whole)))
        (grown_bottom old new m grown.1 (omega (arith, within, long))) (tree.0.unions m within);
  },
  tree_grown old new (count / 2) grown.1 tree.1,
)

pub same_grown : (old new : List (List (List ℕ))) (count : ℕ) → Grown old new → IsTree count old → Same count (bottom old) (bottom new)
same_grown old new count grown tree = λ m within. let long = tree_long old count tree in grown_bottom old new m grown (omega (arith, within, long))

-- what a call leaves in a vector
pub written_back : (new rest : List (List (List ℕ))) (long : ℕ) → long ≡ length new → take long (new ++ rest) ≡ new
written_back new rest long is = subst (λ (n : ℕ). take n (new ++ rest) ≡ new) (sym is) (take-append_seam new rest)

pub on_err : {A E : Type 0} (r : Result A E) (P : Type 0) → P → OnErr r P
on_err (Ok x) P p = tt
on_err (Err e) P p = p

pub same_take : (held : ℕ) (a b : List (List ℕ)) → held ≤ length a → held ≤ length b → Same held a b → take held b ≡ take held a
same_take zero a b long_a long_b same = refl
same_take (suc held) [] b long_a long_b same = absurd (omega (arith, long_a))
same_take (suc held) (x ∷ a) [] long_a long_b same = absurd (omega (arith, long_b))
same_take (suc held) (x ∷ a) (y ∷ b) long_a long_b same =
    ap₂ (λ (x : List ℕ) (xs : List (List ℕ)). x ∷ xs) (same 0 (omega arith))
    (same_take held a b (omega (arith, long_a)) (omega (arith, long_b)) (λ m within. same (suc m) (omega (arith, within))))

-- all levels are made while there are no spans
pub deepened : (count : ℕ) (old new : List (List (List ℕ))) → IsIndex count old → length new ≤ LEVELS → (length old ≡ LEVELS → new ≡ old) → IsIndex count new
deepened zero old new index few same = record {
  tree = tree_none new zero refl;
  few = few;
  deep = λ some. absurd (omega (arith, some));
  small = index.small;
}
deepened (suc count) old new index few same = subst (λ levels. IsIndex (suc count) levels) (sym (same (index.deep (omega arith)))) index

pub deepened_view : (count : ℕ) (old new : List (List (List ℕ))) → IsIndex count old → (length old ≡ LEVELS → new ≡ old) → take count (bottom new) ≡ take count (bottom old)
deepened_view zero old new index same = refl
deepened_view (suc count) old new index same = ap (λ levels. take (suc count) (bottom levels)) (same (index.deep (omega arith)))

-- the other spans after one is put
pub others_put : (held index i : ℕ) (set : List ℕ) (old new : List (List ℕ)) → IsPut held index set old new → ¬ (i ≡ index)
    → pages_at (take (max held (index + 1)) new) i ≡ pages_at (take held old) i
others_put held index i set old new put other =
    elim (cases_lt i held) [
      | inl within ↦
          let here = get_or-take held old i [] within in
          let now = get_or-take (max held (index + 1)) new i [] (omega (arith, within)) in
          now ∙ (put.kept i within other ∙ sym here)
      | inr beyond ↦
          let here = get_or_past (take held old) i [] (rw (length-take held old) (omega (arith, beyond))) in
          elim (cases_lt i index) [
            | inl between ↦ get_or-take (max held (index + 1)) new i [] (omega (arith, between)) ∙ (put.none i beyond between ∙ sym here)
            | inr past ↦
                get_or_past (take (max held (index + 1)) new) i [] (rw (length-take (max held (index + 1)) new) (omega (arith, beyond, past, other)))
                ∙ sym here
          ]
    ]
