-- The ticks of a second, one after the other.
use Rattle.std.proofs.Common.{◌≡◌, ◌≢◌, ℕ, zero, suc, ◌+◌, ◌-◌, ◌*◌, ◌<◌, Bool, true, false, arith, sym, ap, subst, refl, ◌∙◌, not, ◌&&◌, bit_or}
use Rattle.std.specs.Prelude.{◌==◌, if◌then◌else◌}
use Rattle.std.proofs.Math.Path.{ap₂}
use Rattle.std.proofs.lemmas.Bool.{ne_eqb, eq-eqb}
use Rattle.r3k_word.specs.Word.{field_of}
use Rattle.mc146818.specs.declared.registers.TheConstants.{PF, SET}
use Rattle.mc146818.specs.declared.time.Time.{Time}
use Rattle.r3k_word.specs.Word.{has}
use Rattle.mc146818.specs.Clock.{ClockState, runs, rate, is_set}
use Rattle.mc146818.specs.declared.divider.TheConstants.{UNITS}
use Rattle.mc146818.specs.Divider.{second_of, next_count, period_of, ends_at}
use Rattle.mc146818.specs.Second.{after, BeginsSecond}
use Rattle.mc146818.specs.Tick.{moved, with_period, updated, with_update, ticked}
use Rattle.mc146818.specs.Time.{advanced, format_of}

-- the clock `ticks` ticks into a second that `begun` began: its flags may differ
record IsWithin (begun clock : ClockState) (ticks : ℕ) : Type 0 where
  time : clock.time ≡ begun.time
  a : clock.a ≡ begun.a
  b : clock.b ≡ begun.b
  unit : clock.unit ≡ begun.unit
  divider : clock.divider ≡ ticks

-- the end of a period changes flags alone
period_keeps : (begun clock : ClockState) (ticks : ℕ) → IsWithin begun clock ticks → IsWithin begun (with_period clock) ticks
period_keeps begun clock ticks w = cases (ends_at (period_of clock.unit (rate clock)) clock.divider)
  where
    cases : (b : Bool) → IsWithin begun (if b then record clock { flags = bit_or clock.flags PF } else clock) ticks
    cases true = record { time = w.time; a = w.a; b = w.b; unit = w.unit; divider = w.divider }
    cases false = w

-- it runs on
still_runs : (begun clock : ClockState) (ticks : ℕ) → BeginsSecond begun → IsWithin begun clock ticks → runs clock ≡ true
still_runs begun clock ticks h w = ap (λ (a : ℕ). field_of 6 4 a == 2) w.a ∙ h.running

-- where the divider moves to, and what may follow
moves : (begun clock : ClockState) (ticks next : ℕ) → BeginsSecond begun → IsWithin begun clock ticks
    → next_count begun.unit ticks ≡ next
    → (IsWithin begun (with_period (moved clock)) next) × (ticked clock ≡ with_update (with_period (moved clock)))
moves begun clock ticks next h w e = (
  period_keeps begun (moved clock) next (record {
    time = w.time;
    a = w.a;
    b = w.b;
    unit = w.unit;
    divider = ap₂ next_count w.unit w.divider ∙ e;
  }),
  ap (λ (t : Bool). if t then with_update (with_period (moved clock)) else record clock { divider = 0 }) (still_runs begun clock ticks h w),
)

-- a tick that is not the last
tick_within : (begun clock : ClockState) (ticks : ℕ) → BeginsSecond begun → IsWithin begun clock ticks
    → suc ticks < second_of begun.unit → IsWithin begun (ticked clock) (suc ticks)
tick_within begun clock ticks h w below =
    let not_end : ticks + 1 ≢ UNITS * begun.unit = omega arith in
    let next : next_count begun.unit ticks ≡ suc ticks = rw (ne_eqb (ticks + 1) (UNITS * begun.unit) not_end) (omega arith) in
    let m = moves begun clock ticks (suc ticks) h w next in
    let p = with_period (moved clock) in
    let moved_on : p.divider ≢ 0 = λ z. absurd (omega (arith, m.0.divider, z)) in
    let quiet : with_update p ≡ p = ap (λ (t : Bool). if t && not (is_set p) then updated p else p) (ne_eqb p.divider 0 moved_on) in
    subst (λ (s : ClockState). IsWithin begun s (suc ticks)) (sym (m.1 ∙ quiet)) m.0

-- the last tick
tick_last : (begun clock : ClockState) (ticks : ℕ) → BeginsSecond begun → IsWithin begun clock ticks
    → suc ticks ≡ second_of begun.unit → (ticked clock).time ≡ advanced (format_of begun.b) begun.time
tick_last begun clock ticks h w last =
    let at_end : ticks + 1 ≡ UNITS * begun.unit = omega arith in
    let next : next_count begun.unit ticks ≡ 0 = rw (eq-eqb (ticks + 1) (UNITS * begun.unit) at_end) refl in
    let m = moves begun clock ticks 0 h w next in
    let p = with_period (moved clock) in
    let not_set : is_set p ≡ false = ap (λ (b : ℕ). has b SET) m.0.b ∙ h.updating in
    let updates : with_update p ≡ updated p =
    ap₂ (λ (t u : Bool). if t && not u then updated p else p) (eq-eqb p.divider 0 m.0.divider) not_set in
    ap (λ (s : ClockState). s.time) (m.1 ∙ updates) ∙ ap₂ (λ (b : ℕ) (t : Time). advanced (format_of b) t) m.0.b m.0.time

-- each tick of the second
within_second : (begun : ClockState) → BeginsSecond begun → (ticks : ℕ) → ticks < second_of begun.unit → IsWithin begun (after ticks begun) ticks
unfolding after
within_second begun h zero below = record { time = refl; a = refl; b = refl; unit = refl; divider = h.beginning }
within_second begun h (suc n) below = tick_within begun (after n begun) n h (within_second begun h n (omega arith)) below

pub within : (clock : ClockState) (ticks : ℕ) → BeginsSecond clock → ticks < second_of clock.unit → (after ticks clock).time ≡ clock.time
within clock ticks h below = (within_second clock h ticks below).time

after_last : (clock : ClockState) (ticks : ℕ) → BeginsSecond clock → suc ticks ≡ second_of clock.unit
    → (after (suc ticks) clock).time ≡ advanced (format_of clock.b) clock.time
unfolding after
after_last clock ticks h last = tick_last clock (after ticks clock) ticks h (within_second clock h ticks (omega arith)) last

pub second : (clock : ClockState) → BeginsSecond clock → (after (second_of clock.unit) clock).time ≡ advanced (format_of clock.b) clock.time
second clock h =
    let above = h.unit in
    let last : suc (UNITS * clock.unit - 1) ≡ second_of clock.unit = omega arith in
    subst (λ (n : ℕ). (after n clock).time ≡ advanced (format_of clock.b) clock.time) last (after_last clock (UNITS * clock.unit - 1) h last)

-- a divider that is held
still_held : (clock : ClockState) → runs clock ≡ false → (ticks : ℕ) → ((after ticks clock).time ≡ clock.time) × ((after ticks clock).a ≡ clock.a)
unfolding after
still_held clock h zero = (refl, refl)
still_held clock h (suc n) =
    let before = still_held clock h n in
    let s = after n clock in
    let stops : runs s ≡ false = ap (λ (a : ℕ). field_of 6 4 a == 2) before.1 ∙ h in
    let tick : ticked s ≡ record s { divider = 0 } =
    ap (λ (t : Bool). if t then with_update (with_period (moved s)) else record s { divider = 0 }) stops in
    (ap (λ (c : ClockState). c.time) tick ∙ before.0, ap (λ (c : ClockState). c.a) tick ∙ before.1)

pub held : (clock : ClockState) (ticks : ℕ) → runs clock ≡ false → (after ticks clock).time ≡ clock.time
held clock ticks h = (still_held clock h ticks).0
