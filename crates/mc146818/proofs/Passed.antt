-- Ticks that only count, one after the other and many at once.
use Rattle.std.proofs.Common.{◌≡◌, ◌≢◌, ℕ, zero, suc, ◌+◌, ◌-◌, ◌*◌, ◌/◌, ◌%◌, ◌^◌, ◌<◌, ◌≤◌, Bool, true, false, not, ◌&&◌, arith, sym, ap, refl, ◌∙◌, ◌⊎◌, bit_and, bit_or}
use Rattle.std.specs.Prelude.{min, Option, Some, None, if◌then◌else◌, ◌==◌, nat_eq}
use Rattle.std.proofs.Math.Logic.{⊎_elim}
use Rattle.std.proofs.Math.Nat.{div-add-mod, mul-add-mod_self_left, mod-eq_of_lt, mod-lt}
use Rattle.std.proofs.lemmas.Bool.{ne_eqb, eq-eqb, eqb-true, true≢false, not-true, not-false}
use Rattle.std.proofs.lemmas.Nat.{pow_pos}
use Rattle.std.specs.Int.Bits.{or_add_and}
use Rattle.std.proofs.lemmas.Nat.Bits.{bit_at-lt, and_pow}
use Rattle.std.specs.Int.{bit_at}
use Rattle.r3k_word.specs.Word.{has}
use Rattle.mc146818.specs.declared.registers.TheConstants.{PF}
use Rattle.mc146818.specs.declared.quiet.TheConstants.{FOREVER}
use Rattle.mc146818.specs.declared.divider.TheConstants.{UNITS}
use Rattle.mc146818.specs.Divider.{second_of, next_count, period_of, ends_at}
use Rattle.mc146818.specs.Clock.{ClockState, runs, rate, is_set, requests_interrupt}
use Rattle.mc146818.specs.Tick.{moved, with_period, updated, with_update, ticked}
use Rattle.mc146818.specs.Second.{after}
use Rattle.mc146818.specs.Quiet.{passed, quiet_second, quiet_period, quiet_flag, quiet_of}

-- the clock with its divider at this count
abbrev at : ClockState → ℕ → ClockState
at clock count = record clock { divider = count }

le_or_lt : (a n : ℕ) → (a ≤ n) ⊎ (n < a)
le_or_lt a n = grind arith

-- what is left of a count that goes on within its period
pub rest_of : (count more period : ℕ) → count % period + more < period → (count + more) % period ≡ count % period + more
rest_of count more period within =
    let parts : count + more ≡ period * (count / period) + (count % period + more) = omega (arith, div-add-mod count period) in
    ap (λ (n : ℕ). n % period) parts
    ∙ (mul-add-mod_self_left period (count / period) (count % period + more) ∙ mod-eq_of_lt within)

-- and of one that comes to its end
pub rest_at_end : (count more period : ℕ) → 0 < period → count % period + more ≡ period → (count + more) % period ≡ 0
rest_at_end count more period above ends =
    let parts : count + more ≡ period * (count / period + 1) + 0 =
    omega (arith, div-add-mod count period, ends) in
    ap (λ (n : ℕ). n % period) parts
    ∙ (mul-add-mod_self_left period (count / period + 1) 0 ∙ mod-eq_of_lt above)

-- before a period's end it does not end
before_end : (period : Option ℕ) (count n : ℕ) → n < quiet_period period count → ends_at period (count + (n + 1)) ≡ false
before_end None count n h = refl
before_end (Some period) count n h =
    let within : count % period + (n + 1) < period = omega arith in
    ne_eqb ((count + (n + 1)) % period) 0 (λ e. absurd (omega (arith, rest_of count (n + 1) period within, e)))

-- a flag that is set stays as it is
set_already : (flags : ℕ) → has flags PF ≡ true → bit_or flags PF ≡ flags
set_already flags is =
    let some : bit_and flags 64 ≢ 0 = λ e. true≢false (sym (eq-eqb (bit_and flags 64) 0 e) ∙ not-true _ is) in
    let bit : bit_and flags 64 ≡ bit_at flags 6 * 64 = and_pow flags 6 in
    omega (arith, or_add_and flags 64, bit, bit_at-lt flags 6, some)

-- one that is not changes
sets : (flags : ℕ) → has flags PF ≡ false → bit_or flags PF ≢ flags
sets flags is same =
    let none : bit_and flags 64 ≡ 0 = eqb-true (bit_and flags 64) 0 (not-false _ is) in
    absurd (omega (arith, or_add_and flags 64, none, same))

-- no period sets PF in a quiet tick
keeps_flags : (clock : ClockState) (count n : ℕ) (set : Bool) → has clock.flags PF ≡ set
    → n < (if set then FOREVER else quiet_period (period_of clock.unit (rate clock)) count)
    → with_period (at clock (count + (n + 1))) ≡ at clock (count + (n + 1))
keeps_flags clock count n true is h = same (ends_at (period_of clock.unit (rate clock)) (count + (n + 1)))
  where
    same : (ends : Bool) → (if ends then record clock { divider = count + (n + 1); flags = bit_or clock.flags PF } else at clock (count + (n + 1))) ≡ at clock (count + (n + 1))
    same true = ap (λ (f : ℕ). record clock { divider = count + (n + 1); flags = f }) (set_already clock.flags is)
    same false = refl
keeps_flags clock count n false is h =
    let t = at clock (count + (n + 1)) in
    ap (λ (b : Bool). if b then record t { flags = bit_or clock.flags PF } else t) (before_end (period_of clock.unit (rate clock)) count n h)

-- the divider moves on within the second
moves_on : (clock : ClockState) (count n : ℕ) → count + (n + 1) < second_of clock.unit
    → moved (at clock (count + n)) ≡ at clock (count + (n + 1))
moves_on clock count n below =
    let not_end : count + n + 1 ≢ UNITS * clock.unit = omega arith in
    let next : next_count clock.unit (count + n) ≡ count + (n + 1) =
    rw (ne_eqb (count + n + 1) (UNITS * clock.unit) not_end) (omega arith) in
    ap (at clock) next

-- there is no update within it
no_update : (clock : ClockState) → clock.divider ≢ 0 → with_update clock ≡ clock
no_update clock h =
    ap (λ (b : Bool). if b && not (is_set clock) then updated clock else clock) (ne_eqb clock.divider 0 h)

-- by whether the divider runs: a tick, and what passes
abbrev ticked_where : Bool → ClockState → ClockState
ticked_where going clock = if going then with_update (with_period (moved clock)) else record clock { divider = 0 }

abbrev passed_where : Bool → ℕ → ClockState → ClockState
passed_where going n clock = record clock { divider = if going then clock.divider + n else clock.divider }

abbrev quiet_where : Bool → ClockState → ℕ
quiet_where going clock =
    if going then min (quiet_second clock.unit clock.divider) (quiet_flag clock)
    else (if clock.divider == 0 then FOREVER else 0)

held : (clock : ClockState) (n : ℕ) (none : Bool) → (clock.divider == 0) ≡ none → n < (if none then FOREVER else 0)
    → at clock 0 ≡ at clock clock.divider
held clock n true is h = ap (at clock) (sym (eqb-true clock.divider 0 is))
held clock n false is h = absurd (omega arith)

counts : (clock : ClockState) (n : ℕ) (going : Bool) → n < quiet_where going clock
    → ticked_where going (passed_where going n clock) ≡ passed_where going (n + 1) clock
counts clock n true h =
    let next = clock.divider + (n + 1) in
    let above : next ≢ 0 = omega arith in
    ap (λ (s : ClockState). with_update (with_period s)) (moves_on clock clock.divider n (omega arith))
    ∙ (ap with_update (keeps_flags clock clock.divider n (has clock.flags PF) refl (omega arith)) ∙ no_update (at clock next) above)
counts clock n false h = held clock n (clock.divider == 0) refl h

-- a quiet tick only counts
quiet_tick : (clock : ClockState) (n : ℕ) → n < quiet_of clock → ticked (passed n clock) ≡ passed (n + 1) clock
unfolding quiet_of
quiet_tick clock n h = counts clock n (runs clock) h

passed_none : (clock : ClockState) (going : Bool) → passed_where going 0 clock ≡ clock
passed_none clock true = let same : clock.divider + 0 ≡ clock.divider = omega arith in ap (at clock) same
passed_none clock false = refl

pub passes : (clock : ClockState) (n : ℕ) → n ≤ quiet_of clock → after n clock ≡ passed n clock
unfolding after
passes clock zero h = sym (passed_none clock (runs clock))
passes clock (suc n) h =
    let more : n + 1 ≡ suc n = omega arith in
    ap ticked (passes clock n (omega arith)) ∙ (quiet_tick clock n (omega arith) ∙ ap (λ (k : ℕ). passed k clock) more)

pub line_stays : (clock : ClockState) (n : ℕ) → n ≤ quiet_of clock → requests_interrupt (after n clock) ≡ requests_interrupt clock
line_stays clock n h = ap (λ (s : ClockState). requests_interrupt s) (passes clock n h)

pub time_stays : (clock : ClockState) (n : ℕ) → n ≤ quiet_of clock → (after n clock).time ≡ clock.time
time_stays clock n h = ap (λ (s : ClockState). s.time) (passes clock n h)

pub flags_stay : (clock : ClockState) (n : ℕ) → n ≤ quiet_of clock → (after n clock).flags ≡ clock.flags
flags_stay clock n h = ap (λ (s : ClockState). s.flags) (passes clock n h)

-- neither the end of a period nor an update moves the divider
divider_stays : (clock : ClockState) → (with_update (with_period clock)).divider ≡ clock.divider
divider_stays clock =
    by_update (with_period clock) ((with_period clock).divider == 0 && not (is_set (with_period clock)))
    ∙ by_period (ends_at (period_of clock.unit (rate clock)) clock.divider)
  where
    by_update : (s : ClockState) (b : Bool) → (if b then updated s else s).divider ≡ s.divider
    by_update s true = refl
    by_update s false = refl

    by_period : (b : Bool) → (if b then record clock { flags = bit_or clock.flags PF } else clock).divider ≡ clock.divider
    by_period true = refl
    by_period false = refl

-- the tick that ends the second returns the divider to 0
second_ends : (clock : ClockState) (n : ℕ) → clock.divider + n + 1 ≡ second_of clock.unit
    → ticked_where true (at clock (clock.divider + n)) ≢ at clock (clock.divider + (n + 1))
second_ends clock n ends same =
    let at_end : clock.divider + n + 1 ≡ UNITS * clock.unit = ends in
    let next : next_count clock.unit (clock.divider + n) ≡ 0 =
    rw (eq-eqb (clock.divider + n + 1) (UNITS * clock.unit) at_end) refl in
    let moved_to = divider_stays (moved (at clock (clock.divider + n))) in
    let stands : 0 ≡ clock.divider + (n + 1) = sym next ∙ (sym moved_to ∙ ap (λ (s : ClockState). s.divider) same) in
    absurd (omega (arith, stands))

-- a period has ticks
abbrev pub HasTicks : Option ℕ → Type 0
HasTicks None = Unit {0}
HasTicks (Some period) = 0 < period

product_above : (a b : ℕ) → 1 ≤ a → 1 ≤ b → 0 < a * b
product_above a b ha hb = grind arith

pub period_above : (unit rate : ℕ) → 1 ≤ unit → HasTicks (period_of unit rate)
period_above unit rate above =
    either (nat_eq rate 0) None _ tt
    (either (nat_eq rate 1) (Some (32 * unit)) _ (omega arith)
    (either (nat_eq rate 2) (Some (64 * unit)) (Some (unit * 2 ^ (rate - 3))) (omega arith)
    (product_above unit (2 ^ (rate - 3)) above (pow_pos (rate - 3)))))
  where
    either : (b : Bool) (p q : Option ℕ) → HasTicks p → HasTicks q → HasTicks (if b then p else q)
    either true p q h k = h
    either false p q h k = k

ends_then : (period : Option ℕ) (count n : ℕ) → HasTicks period → n ≡ quiet_period period count → n < FOREVER
    → ends_at period (count + (n + 1)) ≡ true
ends_then None count n above is below = absurd (omega arith)
ends_then (Some period) count n above is below =
    let ends : count % period + (n + 1) ≡ period = omega (arith, mod-lt count above) in
    eq-eqb ((count + (n + 1)) % period) 0 (rest_at_end count (n + 1) period above ends)

-- the tick that ends a period sets PF
period_ends : (clock : ClockState) (n : ℕ) (set : Bool) → has clock.flags PF ≡ set
    → n ≡ (if set then FOREVER else quiet_period (period_of clock.unit (rate clock)) clock.divider) → n < FOREVER
    → clock.divider + (n + 1) < second_of clock.unit
    → ticked_where true (at clock (clock.divider + n)) ≢ at clock (clock.divider + (n + 1))
period_ends clock n true is ends below within same = absurd (omega arith)
period_ends clock n false is ends below within same =
    let t = at clock (clock.divider + (n + 1)) in
    let flagged = record t { flags = bit_or clock.flags PF } in
    let period = period_of clock.unit (rate clock) in
    let above : clock.divider + (n + 1) ≢ 0 = omega arith in
    let ended : with_period t ≡ flagged =
    ap (λ (b : Bool). if b then flagged else t)
    (ends_then period clock.divider n (period_above clock.unit (rate clock) (omega arith)) ends below) in
    let ticks = ap (λ (s : ClockState). with_update (with_period s)) (moves_on clock clock.divider n within)
    ∙ (ap with_update ended ∙ no_update flagged above) in
    sets clock.flags is (ap (λ (s : ClockState). s.flags) (sym ticks ∙ same))

differs : (clock : ClockState) (n : ℕ) (going : Bool) → clock.divider < second_of clock.unit → n ≡ quiet_where going clock
    → n < FOREVER → ticked_where going (passed_where going n clock) ≢ passed_where going (n + 1) clock
differs clock n true within is below =
    ⊎_elim
    (λ (l : quiet_second clock.unit clock.divider ≤ n). second_ends clock n (omega arith))
    (λ (l : n < quiet_second clock.unit clock.divider).
    period_ends clock n (has clock.flags PF) refl (omega arith) below (omega arith))
    (le_or_lt (quiet_second clock.unit clock.divider) n)
differs clock n false within is below = cleared (clock.divider == 0) refl is
  where
    cleared : (none : Bool) → (clock.divider == 0) ≡ none → n ≡ (if none then FOREVER else 0) → at clock 0 ≢ at clock clock.divider
    cleared true e is same = absurd (omega arith)
    cleared false e is same =
        true≢false (sym (eq-eqb clock.divider 0 (sym (ap (λ (s : ClockState). s.divider) same))) ∙ e)

pub greatest : (clock : ClockState) → clock.divider < second_of clock.unit → quiet_of clock < FOREVER
    → ticked (passed (quiet_of clock) clock) ≢ passed (quiet_of clock + 1) clock
unfolding quiet_of
greatest clock within below same = differs clock (quiet_of clock) (runs clock) within refl below same

pub next_is : (clock : ClockState) (n : ℕ) → after (n + 1) clock ≡ ticked (after n clock)
unfolding after
next_is clock n = let e : n + 1 ≡ suc n = omega arith in ap (λ (k : ℕ). after k clock) e

pub in_parts : (clock : ClockState) (m n : ℕ) → after (m + n) clock ≡ after m (after n clock)
unfolding after
in_parts clock zero n = let e : 0 + n ≡ n = omega arith in ap (λ (k : ℕ). after k clock) e
in_parts clock (suc m) n =
    let e : suc m + n ≡ suc (m + n) = omega arith in
    ap (λ (k : ℕ). after k clock) e ∙ ap ticked (in_parts clock m n)

passed_in_parts_where : (clock : ClockState) (m n : ℕ) (going : Bool)
    → passed_where going m (passed_where going n clock) ≡ passed_where going (m + n) clock
passed_in_parts_where clock m n true =
    let e : clock.divider + n + m ≡ clock.divider + (m + n) = omega arith in ap (at clock) e
passed_in_parts_where clock m n false = refl

pub passed_in_parts : (clock : ClockState) (m n : ℕ) → passed m (passed n clock) ≡ passed (m + n) clock
passed_in_parts clock m n = passed_in_parts_where clock m n (runs clock)

-- after a part of the quiet ticks the rest are quiet
period_stays_quiet : (period : Option ℕ) (count m n : ℕ) → m + n ≤ quiet_period period count → m ≤ quiet_period period (count + n)
period_stays_quiet None count m n h = omega arith
period_stays_quiet (Some period) count m n h =
    ⊎_elim
    (λ (l : period ≤ count % period + n). let none : m ≡ 0 = omega arith in omega (arith, none))
    (λ (l : count % period + n < period). omega (arith, rest_of count n period l))
    (le_or_lt period (count % period + n))

flag_stays_quiet : (period : Option ℕ) (count m n : ℕ) (set : Bool) → m + n ≤ (if set then FOREVER else quiet_period period count)
    → m ≤ (if set then FOREVER else quiet_period period (count + n))
flag_stays_quiet period count m n true h = omega arith
flag_stays_quiet period count m n false h = period_stays_quiet period count m n h

stays_quiet_where : (clock : ClockState) (m n : ℕ) (going : Bool) → m + n ≤ quiet_where going clock
    → m ≤ quiet_where going (passed_where going n clock)
stays_quiet_where clock m n true h =
    let second : m ≤ quiet_second clock.unit (clock.divider + n) = omega arith in
    let flag = flag_stays_quiet (period_of clock.unit (rate clock)) clock.divider m n (has clock.flags PF) (omega arith) in
    omega arith
stays_quiet_where clock m n false h = omega arith

pub stays_quiet : (clock : ClockState) (m n : ℕ) → m + n ≤ quiet_of clock → m ≤ quiet_of (passed n clock)
unfolding quiet_of
stays_quiet clock m n h = stays_quiet_where clock m n (runs clock) h
