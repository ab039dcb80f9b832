-- Ticks of the bus are ticks of its parts, and they are counted from the schedule.
use Rattle.std.proofs.Common.{◌≡◌, ◌≢◌, ℕ, zero, suc, ◌-◌, ◌≤◌, ap, refl, arith, ◌∙◌}
use Rattle.dz_serial.specs.Quiet as serial_quiet
use Rattle.mc146818.specs.Second as clock_second
use Rattle.kn02_bus.specs.declared.schedule.Schedule.{Schedule}
use Rattle.kn02_bus.specs.State.{BusState}
use Rattle.kn02_bus.specs.Tick.{ticked}
use Rattle.kn02_bus.specs.Quiet.{after}
use Rattle.kn02_bus.specs.Schedule.{schedule_for}

-- each part after n ticks
pub after_parts : (n : ℕ) (bus : BusState)
    → after n bus ≡ record bus { serial = serial_quiet.after n bus.serial; clock = clock_second.after n bus.clock }
unfolding after serial_quiet.after clock_second.after
after_parts zero bus = refl
after_parts (suc n) bus = ap ticked (after_parts n bus)

after_none : (n : ℕ) (bus : BusState) → n ≡ 0 → after n bus ≡ bus
unfolding after
after_none n bus e = ap (λ (m : ℕ). after m bus) e

after_one_more : (m n : ℕ) (bus : BusState) → m ≡ suc n → after m bus ≡ ticked (after n bus)
unfolding after
after_one_more m n bus e = ap (λ (k : ℕ). after k bus) e

-- parts for which the schedule was just made owe nothing
pub owes_nothing : (bus : BusState) (schedule : Schedule) → schedule ≡ schedule_for bus → after (schedule.planned - schedule.left) bus ≡ bus
owes_nothing bus schedule e =
    let planned = ap (λ (p : Schedule). p.planned) e in
    let left = ap (λ (p : Schedule). p.left) e in
    after_none (schedule.planned - schedule.left) bus (omega arith)

-- one quiet tick less to come means one more that they owe
pub owes_one_more : (bus : BusState) (planned left : ℕ) → left ≤ planned → left ≢ 0
    → after (planned - (left - 1)) bus ≡ ticked (after (planned - left) bus)
owes_one_more bus planned left within some = after_one_more (planned - (left - 1)) (planned - left) bus (omega arith)

-- and the same for several ticks at once
pub owes_more : (bus : BusState) (planned left n : ℕ) → n ≤ left → left ≤ planned
    → after (planned - (left - n)) bus ≡ after n (after (planned - left) bus)
unfolding after
owes_more bus planned left zero some within = ap (λ (m : ℕ). after m bus) (omega arith)
owes_more bus planned left (suc n) some within =
    after_one_more (planned - (left - suc n)) (planned - (left - n)) bus (omega arith) ∙ ap ticked (owes_more bus planned left n (omega arith) within)
