-- What holds for both parts holds for the bus.
use Rattle.std.proofs.Common.{◌≡◌, ℕ, ◌+◌, ◌*◌, ◌≤◌, Some, sym, ap, arith, subst, ◌∙◌}
use Rattle.std.specs.Prelude.{min}
use Rattle.r3k_word.specs.Word.{has}
use Rattle.dz_serial.specs.Serial.{Serial}
use Rattle.dz_serial.specs.Bits.{flag_of}
use Rattle.dz_serial.specs.Quiet as serial_quiet
use Rattle.dz_serial.specs.Reads.{word_read}
use Rattle.mc146818.specs.Quiet as clock_quiet
use Rattle.mc146818.specs.Second as clock_second
use Rattle.kn02_bus.specs.declared.csr.TheConstants.{SERIAL_LINE, ENABLE}
use Rattle.kn02_bus.specs.declared.region.Device.{Device}
use Rattle.kn02_bus.specs.declared.region.Device.TheVariants as device
use Rattle.kn02_bus.specs.State.{BusState}
use Rattle.kn02_bus.specs.Lines.{external_lines, lines_of}
use Rattle.kn02_bus.specs.Access.{after_load, csr_of, loaded}
use Rattle.kn02_bus.specs.Tick.{arrived, arrived_framing, wired}
use Rattle.kn02_bus.specs.Quiet.{after, passed, quiet_of, steady_word}
use Rattle.kn02_bus.proofs.Quiet.{after_parts}
use Rattle.kn02_bus.proofs.Unseen.{arrived_is_quiet, passed_arrived, framing_is_quiet, passed_framing, read_is_quiet, passed_read, steady_left, steady_now, word_of_passed}
use Rattle.kn02_bus.proofs.laws.quiet_laws.Goals as goal

pub returns-clause-passes : goal.returns-clause-passes
returns-clause-passes c = λ bus n h.
    let serial : n ≤ serial_quiet.quiet_of bus.serial = omega arith in
    let clock : n ≤ clock_quiet.quiet_of bus.clock = omega arith in
    after_parts n bus ∙ (λ i. record bus {
      serial = c.quiet_laws.ensures.passes bus.serial n serial i;
      clock = c.quiet_laws-2.ensures.passes bus.clock n clock i;
    })

pub returns-clause-in_parts : goal.returns-clause-in_parts
returns-clause-in_parts c = λ bus m n.
    after_parts (m + n) bus
    ∙ ((λ i. record bus {
      serial = c.quiet_laws.ensures.in_parts bus.serial m n i;
      clock = c.quiet_laws-2.ensures.in_parts bus.clock m n i;
    })
    ∙ (sym (after_parts m (record bus { serial = serial_quiet.after n bus.serial; clock = clock_second.after n bus.clock }))
    ∙ sym (ap (after m) (after_parts n bus))))

pub returns-clause-stays_quiet : goal.returns-clause-stays_quiet
returns-clause-stays_quiet c = λ bus m n h.
    let serial : m + n ≤ serial_quiet.quiet_of bus.serial = omega arith in
    let clock : m + n ≤ clock_quiet.quiet_of bus.clock = omega arith in
    let serial_left = c.quiet_laws.ensures.stays_quiet bus.serial m n serial in
    let clock_left = c.quiet_laws-2.ensures.stays_quiet bus.clock m n clock in
    let left : m ≤ quiet_of (passed n bus) = omega (arith, serial_left, clock_left) in
    subst (λ (b : BusState). m ≤ quiet_of b) (sym (returns-clause-passes c bus n (omega arith))) left

pub returns-clause-lines : goal.returns-clause-lines
returns-clause-lines c = λ bus n h.
    let serial : n ≤ serial_quiet.quiet_of bus.serial = omega arith in
    let clock : n ≤ clock_quiet.quiet_of bus.clock = omega arith in
    ap lines_of (after_parts n bus) ∙ (λ i. record {
      board = has bus.enables (flag_of SERIAL_LINE (c.quiet_laws.ensures.line bus.serial n serial i) + external_lines bus.levels);
      clock = c.quiet_laws-2.ensures.line bus.clock n clock i;
    })

pub returns-clause-csr : goal.returns-clause-csr
returns-clause-csr c = λ bus n h.
    let serial : n ≤ serial_quiet.quiet_of bus.serial = omega arith in
    ap csr_of (after_parts n bus)
    ∙ (λ i. bus.enables * ENABLE + (flag_of SERIAL_LINE (c.quiet_laws.ensures.line bus.serial n serial i) + external_lines bus.levels))

pub returns-clause-quiet_arrival : goal.returns-clause-quiet_arrival
returns-clause-quiet_arrival c = λ bus line byte.
    ap (λ (n : ℕ). min n (clock_quiet.quiet_of bus.clock)) (arrived_is_quiet bus.serial line byte)

pub returns-clause-arrival : goal.returns-clause-arrival
returns-clause-arrival c = λ bus n line byte h.
    let still : quiet_of (arrived bus line byte) ≡ quiet_of bus = returns-clause-quiet_arrival c bus line byte in
    let within : n ≤ quiet_of (arrived bus line byte) = omega arith in
    let with_serial = λ (s : Serial). let b : BusState = record { serial = s; clock = clock_quiet.passed n bus.clock; enables = bus.enables; levels = bus.levels } in b in
    returns-clause-passes c (arrived bus line byte) n within
    ∙ (ap with_serial (passed_arrived n bus.serial line byte)
    ∙ ap (λ (b : BusState). arrived b line byte) (sym (returns-clause-passes c bus n h)))

pub returns-clause-quiet_framing : goal.returns-clause-quiet_framing
returns-clause-quiet_framing c = λ bus line byte.
    ap (λ (n : ℕ). min n (clock_quiet.quiet_of bus.clock)) (framing_is_quiet bus.serial line byte)

pub returns-clause-framing : goal.returns-clause-framing
returns-clause-framing c = λ bus n line byte h.
    let still : quiet_of (arrived_framing bus line byte) ≡ quiet_of bus = returns-clause-quiet_framing c bus line byte in
    let within : n ≤ quiet_of (arrived_framing bus line byte) = omega arith in
    let with_serial = λ (s : Serial). let b : BusState = record { serial = s; clock = clock_quiet.passed n bus.clock; enables = bus.enables; levels = bus.levels } in b in
    returns-clause-passes c (arrived_framing bus line byte) n within
    ∙ (ap with_serial (passed_framing n bus.serial line byte)
    ∙ ap (λ (b : BusState). arrived_framing b line byte) (sym (returns-clause-passes c bus n h)))

pub returns-clause-wire : goal.returns-clause-wire
returns-clause-wire c = λ bus n k level.
    after_parts n (wired bus k level) ∙ ap (λ (b : BusState). wired b k level) (sym (after_parts n bus))

pub returns-clause-word : goal.returns-clause-word
returns-clause-word c = λ bus n offset h.
    ap (λ (b : BusState). word_read b.serial offset) (returns-clause-passes c bus n h) ∙ word_of_passed n bus.serial offset

pub returns-clause-quiet_read : goal.returns-clause-quiet_read
returns-clause-quiet_read c = λ bus offset.
    ap (λ (n : ℕ). min n (clock_quiet.quiet_of bus.clock)) (read_is_quiet bus.serial offset)

pub returns-clause-read : goal.returns-clause-read
returns-clause-read c = λ bus n offset h.
    let read = device.Serial offset in
    let still : quiet_of (after_load bus read) ≡ quiet_of bus = returns-clause-quiet_read c bus offset in
    let within : n ≤ quiet_of (after_load bus read) = omega arith in
    let with_serial = λ (s : Serial). let b : BusState = record { serial = s; clock = clock_quiet.passed n bus.clock; enables = bus.enables; levels = bus.levels } in b in
    returns-clause-passes c (after_load bus read) n within
    ∙ (ap with_serial (passed_read n bus.serial offset)
    ∙ ap (λ (b : BusState). after_load b read) (sym (returns-clause-passes c bus n h)))

-- by the device
steady_later : (bus : BusState) (n : ℕ) (register : Device) (word : ℕ) → ((offset : ℕ) → loaded (after n bus) (device.Serial offset) ≡ loaded bus (device.Serial offset))
    → csr_of (after n bus) ≡ csr_of bus → steady_word bus register ≡ Some word → loaded (after n bus) register ≡ loaded bus register
steady_later bus n (device.Serial offset) word serial csr is = serial offset
steady_later bus n (device.Clock number) word serial csr is = cc is
steady_later bus n device.Csr word serial csr is = csr

pub returns-clause-steady : goal.returns-clause-steady
returns-clause-steady c = λ bus n word register h is. (
  steady_later bus n register word (λ offset. returns-clause-word c bus n offset h) (returns-clause-csr c bus n h) is
      ∙ steady_now bus register word is,
  steady_left bus (after n bus) register word is,
)
