-- Calls one after the other.
use Rattle.std.proofs.Common.{◌≡◌, ℕ, ◌<◌, List, [], ◌∷◌, ◌++◌, take, length, unwrap_or, Option, Some, None, Result, Ok, Err, MatchResult, append_assoc, map, refl, sym, ap, subst, ◌∙◌, arith, length-append}
use Rattle.std.proofs.KnownBytes.{Appends-kept, Appends-nil, Appends-trans, Consumes-kept, Consumes-nil, Consumes-trans}
use Rattle.std.proofs.lemmas.List.{append-nil}
use Rattle.std.specs.Io.KnownBytes.{Appends, Consumes, IsAtEnd, Keeps}
use Rattle.wb_io.specs.Calls.{Call, Each, EndsWell, MovesSome, Reads, TakesAll, TakesFront, Writes, bytes_of, bytes_moved, call}

pub bytes_moved-append : (first second : List Call) → bytes_moved (first ++ second) ≡ bytes_moved first ++ bytes_moved second
bytes_moved-append [] second = refl
bytes_moved-append (call ∷ first) second =
    ap (λ (z : List ℕ). bytes_of call ++ z) (bytes_moved-append first second) ∙ sym (append_assoc (bytes_of call) (bytes_moved first) (bytes_moved second))

-- calls after calls
pub Writes-nil : (writes : List Call) (written : Option (List ℕ)) → Writes writes writes written written []
Writes-nil writes written = (sym (append-nil writes), Appends-nil written)

pub Writes-trans : (a b c : List Call) (u v w : Option (List ℕ)) (first second : List Call) → Writes a b u v first → Writes b c v w second → Writes a c u w (first ++ second)
Writes-trans a b c u v w first second f g = (
  g.0 ∙ (ap (λ (z : List Call). z ++ second) f.0 ∙ append_assoc a first second),
  subst (Appends u w) (sym (bytes_moved-append first second)) (Appends-trans u v w (bytes_moved first) (bytes_moved second) f.1 g.1),
)

pub Reads-nil : (reads : List Call) (left : Option (List ℕ)) → Reads reads reads left left []
Reads-nil reads left = (sym (append-nil reads), Consumes-nil left, refl)

-- calls end as the last of them does
ends_as_last : (u v w : Option (List ℕ)) (first : List Call) (call : Call) (calls : List Call) → EndsWell v w (call ∷ calls) → EndsWell u w (first ++ call ∷ calls)
ends_as_last u v w [] call [] h = h
ends_as_last u v w [] call (next ∷ calls) h = ends_as_last u v w [] next calls h
ends_as_last u v w (one ∷ []) call calls h = ends_as_last u v w [] call calls h
ends_as_last u v w (one ∷ (next ∷ first)) call calls h = ends_as_last u v w (next ∷ first) call calls h

ends_well-trans : (u v w : Option (List ℕ)) (first second : List Call) → EndsWell u v first → EndsWell v w second → EndsWell u w (first ++ second)
ends_well-trans u v w first [] f g = subst (λ (z : List Call). EndsWell u w z) (sym (append-nil first)) (subst (λ (z : Option (List ℕ)). EndsWell u z first) (sym g) f)
ends_well-trans u v w first (call ∷ calls) f g = ends_as_last u v w first call calls g

pub Reads-trans : (a b c : List Call) (u v w : Option (List ℕ)) (first second : List Call) → Reads a b u v first → Reads b c v w second → Reads a c u w (first ++ second)
Reads-trans a b c u v w first second f g = (
  g.0 ∙ (ap (λ (z : List Call). z ++ second) f.0 ∙ append_assoc a first second),
  subst (Consumes u w) (sym (bytes_moved-append first second)) (Consumes-trans u v w (bytes_moved first) (bytes_moved second) f.1 g.1),
  ends_well-trans u v w first second f.2 g.2,
)

-- a fact of each call, and of one more
pub Each-append_one : (P : Call → Type 0) (calls : List Call) (call : Call) → Each P calls → P call → Each P (calls ++ call ∷ [])
Each-append_one P [] call each here = (here, tt)
Each-append_one P (first ∷ calls) call each here = (each.0, Each-append_one P calls call each.1 here)

-- one call
pub Writes-one : {E : Type 0} (a b : List Call) (u v : Option (List ℕ)) (asked : ℕ) (answer : Result ℕ E) (bytes : List ℕ) → b ≡ a ++ call asked answer bytes ∷ [] → MatchResult answer (λ count. Appends u v (take count bytes)) (λ _. Keeps u v) → Writes a b u v (call asked answer bytes ∷ [])
Writes-one a b u v asked (Ok count) bytes e h = (e, subst (Appends u v) (sym (append-nil (take count bytes))) h)
Writes-one a b u v asked (Err error) bytes e h = (e, Appends-kept u u v [] (Appends-nil u) h)

-- one call of a reader: it failed, gave some bytes, or reached the end
one_consumed : (u v : Option (List ℕ)) (one : Call) → Consumes u v (bytes_of one) → Consumes u v (bytes_moved (one ∷ []))
one_consumed u v one h = subst (Consumes u v) (sym (append-nil (bytes_of one))) h

pub Reads-failed : (a b : List Call) (u v : Option (List ℕ)) (one : Call) → b ≡ a ++ one ∷ [] → one.moved ≡ None → Keeps u v → Reads a b u v (one ∷ [])
Reads-failed a b u v one e none h = (
  e,
  one_consumed u v one (subst (λ (m : Option (List ℕ)). Consumes u v (unwrap_or m [])) (sym none) (Consumes-kept u u v [] (Consumes-nil u) h)),
  λ empty. (let no : None ≡ Some [] = sym none ∙ empty.1 in cc),
)

pub Reads-some : (a b : List Call) (u v : Option (List ℕ)) (one : Call) → b ≡ a ++ one ∷ [] → Consumes u v (bytes_of one) → MovesSome one → Reads a b u v (one ∷ [])
Reads-some a b u v one e h some = (
  e,
  one_consumed u v one h,
  λ none. absurd (let zero : length (bytes_of one) ≡ 0 = ap (λ (m : Option (List ℕ)). length (unwrap_or m [])) none.1 in omega (arith, some, zero)),
)

pub Reads-end : (a b : List Call) (u v : Option (List ℕ)) (one : Call) → b ≡ a ++ one ∷ [] → Consumes u v (bytes_of one) → (0 < one.asked → IsAtEnd v) → Reads a b u v (one ∷ [])
Reads-end a b u v one e h end = (e, one_consumed u v one h, λ none. end none.0)

pub Each-append : (P : Call → Type 0) (first second : List Call) → Each P first → Each P second → Each P (first ++ second)
Each-append P [] second f g = g
Each-append P (call ∷ first) second f g = (f.0, Each-append P first second f.1 g)

-- calls that took all of some bytes, and then others that took all, or a front, of further bytes
pub TakesAll-append : (x y : List ℕ) (first second : List Call) → TakesAll x first → TakesAll y second → TakesAll (x ++ y) (first ++ second)
TakesAll-append x y first second f g = record {
  each = Each-append MovesSome first second f.each g.each;
  all = bytes_moved-append first second ∙ (ap (λ (z : List ℕ). z ++ bytes_moved second) f.all ∙ ap (λ (z : List ℕ). x ++ z) g.all);
}

pub TakesFront-after : (x y : List ℕ) (first second : List Call) → TakesAll x first → TakesFront y second → TakesFront (x ++ y) (first ++ second)
TakesFront-after x y first second f g = record {
  good = first ++ g.good;
  bad = g.bad;
  rest = g.rest;
  calls_are = ap (λ (z : List Call). first ++ z) g.calls_are ∙ sym (append_assoc first g.good (g.bad ∷ []));
  each = Each-append MovesSome first g.good f.each g.each;
  stopped = g.stopped;
  front = ap (λ (z : List ℕ). x ++ z) g.front ∙ (sym (append_assoc x (bytes_moved second) g.rest)
      ∙ ap (λ (z : List ℕ). z ++ g.rest) (ap (λ (z : List ℕ). z ++ bytes_moved second) (sym f.all) ∙ sym (bytes_moved-append first second)));
  left = g.left;
}

-- a front of some bytes is a front of more
pub TakesFront-more : (x y : List ℕ) (calls : List Call) → TakesFront x calls → TakesFront (x ++ y) calls
TakesFront-more x y calls f = record {
  good = f.good;
  bad = f.bad;
  rest = f.rest ++ y;
  calls_are = f.calls_are;
  each = f.each;
  stopped = f.stopped;
  front = ap (λ (z : List ℕ). z ++ y) f.front ∙ append_assoc (bytes_moved calls) f.rest y;
  left = let more = length-append f.rest y in omega (arith, f.left, more);
}

-- one more of what is made of a list
pub map_append_one : {A B : Type 0} (f : A → B) (xs : List A) (x : A) → map f (xs ++ x ∷ []) ≡ map f xs ++ f x ∷ []
map_append_one f [] x = refl
map_append_one f (y ∷ xs) x = ap (λ (z : List _). f y ∷ z) (map_append_one f xs x)
