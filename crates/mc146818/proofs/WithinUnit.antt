-- A tick that ends no unit ends no period and no second.
use Rattle.std.proofs.Common.{◌≡◌, ℕ, ◌-◌, ◌*◌, ◌%◌, ◌^◌, ◌<◌, ◌≤◌, Bool, true, false, arith, sym, ap, refl, ◌∙◌}
use Rattle.std.specs.Prelude.{◌&&◌, not, bit_or, Option, Some, None, nat_eq, if◌then◌else◌}
use Rattle.std.proofs.Math.Arith.{mod-mul}
use Rattle.std.proofs.Math.Nat.{mul_comm, zero-mod}
use Rattle.std.proofs.lemmas.Bool.{ne_eqb}
use Rattle.std.proofs.lemmas.Nat.{pow_pos}
use Rattle.mc146818.specs.declared.registers.TheConstants.{PF}
use Rattle.mc146818.specs.Divider.{next_count, period_of, ends_at}
use Rattle.mc146818.specs.Clock.{ClockState, runs, rate, is_set}
use Rattle.mc146818.specs.Tick.{moved, with_period, updated, with_update, ticked}

-- what ends no unit ends no number of units
no_units : (unit some count : ℕ) → 1 ≤ unit → 0 < some → (count % unit ≡ 0 → ⊥) → nat_eq (count % (some * unit)) 0 ≡ false
no_units unit some count above any not_whole =
    ne_eqb _ 0 (λ h. not_whole (omega (arith, mod-mul count {m = some} {c = unit} any above, h)))

-- neither of two periods ends
neither : (b : Bool) (p q : Option ℕ) (count : ℕ) → ends_at p count ≡ false → ends_at q count ≡ false
    → ends_at (if b then p else q) count ≡ false
neither true p q count h k = h
neither false p q count h k = k

-- no period ends
no_period : (unit rate count : ℕ) → 1 ≤ unit → (count % unit ≡ 0 → ⊥) → ends_at (period_of unit rate) count ≡ false
no_period unit rate count above not_whole =
    let longer : nat_eq (count % (unit * 2 ^ (rate - 3))) 0 ≡ false =
    rw (mul_comm unit (2 ^ (rate - 3))) (no_units unit (2 ^ (rate - 3)) count above (pow_pos (rate - 3)) not_whole) in
    neither (nat_eq rate 0) None _ count refl
    (neither (nat_eq rate 1) (Some (32 * unit)) _ count (no_units unit 32 count above (omega arith) not_whole)
    (neither (nat_eq rate 2) (Some (64 * unit)) _ count (no_units unit 64 count above (omega arith) not_whole) longer))

-- neither the end of a period nor an update changes anything
quiet : (clock : ClockState) → 1 ≤ clock.unit → (clock.divider % clock.unit ≡ 0 → ⊥) → with_update (with_period clock) ≡ clock
quiet clock above not_whole =
    let not_zero : nat_eq clock.divider 0 ≡ false = ne_eqb clock.divider 0 (λ h. not_whole (rw h (zero-mod clock.unit))) in
    ap (λ (b : Bool). with_update (if b then record clock { flags = bit_or clock.flags PF } else clock)) (no_period clock.unit (rate clock) clock.divider above not_whole)
    ∙ ap (λ (b : Bool). if b && not (is_set clock) then updated clock else clock) not_zero

-- a tick within a unit moves the divider, and changes nothing else
pub quiet_tick : (clock : ClockState) → runs clock ≡ true → 1 ≤ clock.unit
    → (next_count clock.unit clock.divider % clock.unit ≡ 0 → ⊥) → moved clock ≡ ticked clock
quiet_tick clock going above not_whole =
    sym (quiet (moved clock) above not_whole)
    ∙ ap (λ (b : Bool). if b then with_update (with_period (moved clock)) else record clock { divider = 0 }) (sym going)
