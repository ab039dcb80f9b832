-- One number of a command, in a range.
use Rattle.std.proofs.Common.{◌≡◌, ℕ, ◌^◌, ◌<◌, ◌≤◌, Bool, true, false, cond, ◌&&◌, Option, Some, None, Result, Ok, Err, refl, ap, ltb, leb, arith, inl, inr}
use Rattle.std.specs.Option.{SomeIff, ok_or}
use Rattle.std.proofs.Math.Bool.{and-false}
use Rattle.std.proofs.lemmas.Bool.{and_parts, and_from, cases_Bool, ltb-false, leb-true, lt-leb, le-leb}
use Rattle.wb_text.specs.Number.{number_in_range, number_within}
use Rattle.refusal.specs.declared.fault.Fault.{Fault}
use Rattle.refusal.specs.declared.fault.Fault.TheVariants.{Range}

abbrev judged : Bool → ℕ → Result ℕ Fault
judged fits n = cond fits (Ok n) (Err Range)

is_judged : (fits : Bool) (n m : ℕ) → judged fits n ≡ Ok m → n ≡ m
is_judged true n m e = cc
is_judged false n m e = absurd cc

is_refused : (fits : Bool) (n : ℕ) (fault : Fault) → judged fits n ≡ Err fault → (fits ≡ false) × (Range ≡ fault)
is_refused true n fault e = absurd cc
is_refused false n fault e = (refl, cc)

-- a number that no command takes
pub refused : (least most : ℕ) (o : Option ℕ) (fault : Fault) → most < 2 ^ 64 → number_in_range o ≡ Err fault → number_within least most o ≡ Err fault
refused least most None fault fits e = e
refused least most (Some n) fault fits e =
    let h = is_refused (ltb n (2 ^ 64)) n fault e in
    let large : most < n = omega (arith, fits, ltb-false n (2 ^ 64) h.0) in
    rw (lt-leb n most large, and-false, h.1) refl

-- a number that is judged by a command's range
pub in_range : (least most n : ℕ) (o : Option ℕ) (b : Option ℕ) → number_in_range o ≡ Ok n → SomeIff b ((least ≤ n) × (n ≤ most)) n
    → ok_or b Range ≡ number_within least most o
in_range least most n None b e h = absurd cc
in_range least most n (Some m) b e h = rw (is_judged (ltb m (2 ^ 64)) m n e) (by_bounds b h)
  where
    by_bounds : (b : Option ℕ) → SomeIff b ((least ≤ n) × (n ≤ most)) n → ok_or b Range ≡ judged (leb least n && leb n most) n
    by_bounds (Some x) h = rw (and_from _ _ (le-leb _ _ h.0.0) (le-leb _ _ h.0.1)) (ap (λ (y : ℕ). Ok y) h.1)
    by_bounds None h =
        elim (cases_Bool (leb least n && leb n most)) [
          | inl holds ↦ (let g = and_parts _ _ holds in absurd (h (leb-true _ _ g.0, leb-true _ _ g.1)))
          | inr fails ↦ rw fails refl
        ]
