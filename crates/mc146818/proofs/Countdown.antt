-- The ticks that are left of a second and of a period.
use Rattle.std.proofs.Common.{◌≡◌, ◌≢◌, ℕ, zero, suc, ◌+◌, ◌-◌, ◌*◌, ◌%◌, ◌<◌, ◌≤◌, ◌⊎◌, Bool, true, false, not, ◌&&◌, arith, sym, ap, subst, refl, ◌∙◌, inl, inr, bit_or}
use Rattle.std.specs.Prelude.{Option, Some, None, if◌then◌else◌, ◌==◌, nat_eq}
use Rattle.std.proofs.Math.Path.{ap₂}
use Rattle.std.proofs.Math.Logic.{⊎_elim}
use Rattle.std.proofs.Math.Nat.{mod-lt, zero-mod}
use Rattle.std.proofs.lemmas.Bool.{cases_Bool, ne_eqb, eq-eqb}
use Rattle.std.proofs.lemmas.Option.{same_Some}
use Rattle.r3k_word.specs.Word.{field_of}
use Rattle.mc146818.specs.declared.registers.TheConstants.{PF}
use Rattle.mc146818.specs.declared.divider.TheConstants.{UNITS}
use Rattle.mc146818.specs.Divider.{second_of, next_count, period_of, ends_at}
use Rattle.mc146818.specs.Clock.{ClockState, runs, rate, is_set}
use Rattle.mc146818.specs.Tick.{ends_period, moved, with_period, updated, with_update, ticked}
use Rattle.mc146818.specs.Second.{after}
use Rattle.mc146818.specs.Quiet.{left_of, next_period, next_second}
use Rattle.mc146818.proofs.Passed.{rest_of, rest_at_end, HasTicks, period_above}

-- a clock with the registers and the unit of another one, and with a count in its divider
record IsAt (begun clock : ClockState) (count : ℕ) : Type 0 where
  a : clock.a ≡ begun.a
  unit : clock.unit ≡ begun.unit
  divider : clock.divider ≡ count

period_keeps : (begun clock : ClockState) (count : ℕ) → IsAt begun clock count → IsAt begun (with_period clock) count
period_keeps begun clock count w = cases (ends_period clock)
  where
    cases : (b : Bool) → IsAt begun (if b then record clock { flags = bit_or clock.flags PF } else clock) count
    cases true = record { a = w.a; unit = w.unit; divider = w.divider }
    cases false = w

update_keeps : (begun clock : ClockState) (count : ℕ) → IsAt begun clock count → IsAt begun (with_update clock) count
update_keeps begun clock count w = cases ((clock.divider == 0) && not (is_set clock))
  where
    cases : (b : Bool) → IsAt begun (if b then updated clock else clock) count
    cases true = record { a = w.a; unit = w.unit; divider = w.divider }
    cases false = w

-- a tick of a clock that runs
tick_moves : (begun clock : ClockState) (count : ℕ) → runs begun ≡ true → IsAt begun clock count → IsAt begun (ticked clock) (next_count begun.unit count)
tick_moves begun clock count going w =
    let on : IsAt begun (moved clock) (next_count begun.unit count) = record { a = w.a; unit = w.unit; divider = ap₂ next_count w.unit w.divider } in
    let still : runs clock ≡ true = ap (λ (a : ℕ). field_of 6 4 a == 2) w.a ∙ going in
    let ends : ticked clock ≡ with_update (with_period (moved clock)) =
    ap (λ (t : Bool). if t then with_update (with_period (moved clock)) else record clock { divider = 0 }) still in
    subst (λ (s : ClockState). IsAt begun s (next_count begun.unit count)) (sym ends)
    (update_keeps begun (with_period (moved clock)) (next_count begun.unit count) (period_keeps begun (moved clock) (next_count begun.unit count) on))

-- before the second ends, and at its end
goes_on : (begun : ClockState) (ticks : ℕ) → runs begun ≡ true → begun.divider + ticks < second_of begun.unit → IsAt begun (after ticks begun) (begun.divider + ticks)
unfolding after
goes_on begun zero going within = record { a = refl; unit = refl; divider = omega arith }
goes_on begun (suc n) going within =
    let before = goes_on begun n going (omega (arith, within)) in
    let not_end : begun.divider + n + 1 ≢ UNITS * begun.unit = omega (arith, within) in
    let next : next_count begun.unit (begun.divider + n) ≡ begun.divider + suc n =
    rw (ne_eqb (begun.divider + n + 1) (UNITS * begun.unit) not_end) (omega arith) in
    subst (λ (count : ℕ). IsAt begun (ticked (after n begun)) count) next (tick_moves begun (after n begun) (begun.divider + n) going before)

ends : (begun : ClockState) (ticks : ℕ) → runs begun ≡ true → begun.divider + suc ticks ≡ second_of begun.unit → IsAt begun (after (suc ticks) begun) 0
unfolding after
ends begun ticks going last =
    let before = goes_on begun ticks going (omega (arith, last)) in
    let at_end : begun.divider + ticks + 1 ≡ UNITS * begun.unit = omega (arith, last) in
    let next : next_count begun.unit (begun.divider + ticks) ≡ 0 = rw (eq-eqb (begun.divider + ticks + 1) (UNITS * begun.unit) at_end) refl in
    subst (λ (count : ℕ). IsAt begun (ticked (after ticks begun)) count) next (tick_moves begun (after ticks begun) (begun.divider + ticks) going before)

ends_at_second : (begun : ClockState) (ticks : ℕ) → runs begun ≡ true → 0 < ticks → begun.divider + ticks ≡ second_of begun.unit → IsAt begun (after ticks begun) 0
ends_at_second begun zero going some last = absurd (omega (arith, some))
ends_at_second begun (suc n) going some last = ends begun n going last

-- what is left is given only while the clock runs
if_runs : (going : Bool) (o : Option ℕ) (left : ℕ) → (if going then o else None) ≡ Some left → (going ≡ true) × (o ≡ Some left)
if_runs true o left is = (refl, is)
if_runs false o left is = cc

pub second_goes_on : (clock : ClockState) (left ticks : ℕ) → next_second clock ≡ Some left → clock.divider < second_of clock.unit → ticks < left
    → (after ticks clock).divider ≡ clock.divider + ticks
second_goes_on clock left ticks is within before =
    let r = if_runs (runs clock) (Some (second_of clock.unit - clock.divider)) left is in
    (goes_on clock ticks r.0 (omega (arith, same_Some _ _ r.1, before, within))).divider

pub second_ends : (clock : ClockState) (left : ℕ) → next_second clock ≡ Some left → clock.divider < second_of clock.unit → (after left clock).divider ≡ 0
second_ends clock left is within =
    let r = if_runs (runs clock) (Some (second_of clock.unit - clock.divider)) left is in
    (ends_at_second clock left r.0 (omega (arith, same_Some _ _ r.1, within)) (omega (arith, same_Some _ _ r.1, within))).divider

-- whether a period ends at a count, while the registers and the unit stay
ends_by : (begun clock : ClockState) (count : ℕ) → IsAt begun clock count → ends_period clock ≡ ends_at (period_of begun.unit (rate begun)) count
ends_by begun clock count w = rw (w.unit, w.divider, w.a) refl

not_yet : (period : Option ℕ) (count left ticks : ℕ) → left_of count period ≡ Some left → 0 < ticks → ticks < left → ends_at period (count + ticks) ≡ false
not_yet None count left ticks is some before = refl
not_yet (Some period) count left ticks is some before =
    let within : count % period + ticks < period = omega (arith, same_Some _ _ is, before) in
    ne_eqb ((count + ticks) % period) 0 (λ e. absurd (omega (arith, rest_of count ticks period within, e, some)))

now : (period : Option ℕ) (count left : ℕ) → HasTicks period → left_of count period ≡ Some left → ends_at period (count + left) ≡ true
now None count left above is = cc
now (Some period) count left above is =
    let ends : count % period + left ≡ period = omega (arith, same_Some _ _ is, mod-lt count above) in
    eq-eqb ((count + left) % period) 0 (rest_at_end count left period above ends)

at_zero : (period : Option ℕ) (count left : ℕ) → left_of count period ≡ Some left → ends_at period 0 ≡ true
at_zero None count left is = cc
at_zero (Some period) count left is = eq-eqb (0 % period) 0 (zero-mod period)

pub period_goes_on : (clock : ClockState) (left ticks : ℕ) → next_period clock ≡ Some left → clock.divider + ticks < second_of clock.unit → 0 < ticks → ticks < left
    → ends_period (after ticks clock) ≡ false
period_goes_on clock left ticks is within some before =
    let period = period_of clock.unit (rate clock) in
    let r = if_runs (runs clock) (left_of clock.divider period) left is in
    ends_by clock (after ticks clock) (clock.divider + ticks) (goes_on clock ticks r.0 within)
    ∙ not_yet period clock.divider left ticks r.1 some before

pub period_ends : (clock : ClockState) (left : ℕ) → next_period clock ≡ Some left → clock.divider < second_of clock.unit → clock.divider + left ≤ second_of clock.unit
    → ends_period (after left clock) ≡ true
period_ends clock left is begun within =
    let period = period_of clock.unit (rate clock) in
    let r = if_runs (runs clock) (left_of clock.divider period) left is in
    ⊎_elim
    (λ (l : clock.divider + left < second_of clock.unit).
    ends_by clock (after left clock) (clock.divider + left) (goes_on clock left r.0 l)
    ∙ now period clock.divider left (period_above clock.unit (rate clock) (omega (arith, begun))) r.1)
    (λ (l : second_of clock.unit ≤ clock.divider + left).
    ends_by clock (after left clock) 0 (ends_at_second clock left r.0 (omega (arith, l, begun)) (omega (arith, l, within)))
    ∙ at_zero period clock.divider left r.1)
    (lt_or_le (clock.divider + left) (second_of clock.unit))
  where
    lt_or_le : (a n : ℕ) → (a < n) ⊎ (n ≤ a)
    lt_or_le a n = grind arith
