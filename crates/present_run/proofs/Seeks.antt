-- A search that goes on after a front that was searched.
use Rattle.std.proofs.Common.{◌≡◌, ℕ, zero, suc, ◌+◌, List, [], ◌∷◌, ◌++◌, length, map, Option, Some, slice_get, refl, sym, ap, ◌∙◌, arith, length-append}
use Rattle.std.specs.Option.{is_some, option_map}
use Rattle.std.proofs.lemmas.Bool.{true≢false}
use Rattle.std.proofs.lemmas.List.{length-map}
use Rattle.std.proofs.lemmas.Option.{slice_get-map}

pub get_front : (xs ys : List ℕ) (place x : ℕ) → slice_get xs place ≡ Some x → slice_get (xs ++ ys) place ≡ Some x
get_front [] ys place x is = absurd (true≢false (ap (λ (o : Option ℕ). is_some o) (sym is)))
get_front (y ∷ xs) ys zero x is = is
get_front (y ∷ xs) ys (suc place) x is = get_front xs ys place x is

pub get_after : (xs ys : List ℕ) (left : ℕ) → slice_get (xs ++ ys) (length xs + left) ≡ slice_get ys left
get_after [] ys left = ap (slice_get ys) (let e : 0 + left ≡ left = omega arith in e)
get_after (x ∷ xs) ys left = ap (slice_get (x ∷ (xs ++ ys))) (let e : suc (length xs) + left ≡ suc (length xs + left) = omega arith in e) ∙ get_after xs ys left

-- what was found in the front is found in the whole
pub found_front : (front rest all : List ℕ) (place x : ℕ) → all ≡ front ++ rest → slice_get front place ≡ Some x → slice_get all place ≡ Some x
found_front front rest all place x whole is = ap (λ (xs : List ℕ). slice_get xs place) whole ∙ get_front front rest place x is

-- what is found after the front, counted from there
pub found_after : (from : ℕ) (front rest all : List ℕ) (place left x : ℕ) → all ≡ front ++ map (λ k. from + k) rest → length front + left ≡ place
    → slice_get rest left ≡ Some x → slice_get all place ≡ Some (from + x)
found_after from front rest all place left x whole beyond is =
    ap (λ (xs : List ℕ). slice_get xs place) whole
    ∙ (ap (slice_get (front ++ map (λ k. from + k) rest)) (sym beyond)
    ∙ (get_after front (map (λ k. from + k) rest) left
    ∙ (slice_get-map (λ k. from + k) rest left ∙ ap (option_map (λ k. from + k)) is)))

-- nothing is found
pub left_after : (from : ℕ) (front rest all : List ℕ) (place left more : ℕ) → all ≡ front ++ map (λ k. from + k) rest → length front + left ≡ place
    → length rest + more ≡ left → length all + more ≡ place
left_after from front rest all place left more whole beyond is =
    let long : length all ≡ length front + length rest =
    ap (λ (xs : List ℕ). length xs) whole ∙ (length-append front (map (λ k. from + k) rest) ∙ ap (λ (n : ℕ). length front + n) (length-map rest (λ k. from + k))) in
    omega (arith, long, beyond, is)

-- what follows the front
pub at_seam : (front : List ℕ) (x : ℕ) (rest : List ℕ) → slice_get ((front ++ x ∷ []) ++ rest) (length front) ≡ Some x
at_seam [] x rest = refl
at_seam (y ∷ front) x rest = at_seam front x rest
