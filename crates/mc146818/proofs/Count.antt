-- A count of ticks as whole units and the ticks beyond them: how it advances, and what it is a multiple of.
use Rattle.std.proofs.Common.{◌≡◌, ◌≢◌, ℕ, ◌+◌, ◌-◌, ◌*◌, ◌%◌, ◌^◌, ◌<◌, ◌≤◌, ◌↔◌, IsTrue, true, false, arith, sym, ap, ◌∙◌, bit_and}
use Rattle.std.specs.Prelude.{nat_eq, nat_le}
use Rattle.std.proofs.Math.Arith.{mod-mul}
use Rattle.std.proofs.Math.Nat.{mul-le-mul_right, mul_comm}
use Rattle.std.proofs.lemmas.Nat.{div-mul-add, mod-mul-add, and_mask, one_shl, pow_pos, same_from_place}
use Rattle.std.proofs.lemmas.Bool.{ne_eqb, eq-eqb, eqb-true, le-leb, lt-leb}
use Rattle.std.proofs.lemmas.Bool.Decides.{leb_tells}
use Rattle.std.proofs.Math.Logic.{⊎_elim}
use Rattle.mc146818.specs.declared.divider.TheConstants.{UNITS, NEAR_END}
use Rattle.mc146818.specs.Divider.{Ticks, next_count, is_near_end}

-- whole units and ticks beyond them stay below a second
below_second : (units unit ticks : ℕ) → units < UNITS → ticks < unit → units * unit + ticks < UNITS * unit
below_second units unit ticks fits below =
    let most : (units + 1) * unit ≤ UNITS * unit = mul-le-mul_right unit (let h : units + 1 ≤ UNITS = omega arith in h) in
    omega (arith, most)

-- the divider at this count, with this many ticks a unit
abbrev pub at : (unit count : ℕ) → Ticks
at unit count = record { count = count; unit = unit }

-- a tick within a unit
pub next_tick : (units unit ticks : ℕ) → units < UNITS → ticks + 1 < unit
    → at unit (units * unit + (ticks + 1)) ≡ at unit (next_count unit (units * unit + ticks))
next_tick units unit ticks fits below =
    let not_end : units * unit + ticks + 1 ≢ UNITS * unit = omega (arith, below_second units unit (ticks + 1) fits below) in
    rw (ne_eqb (units * unit + ticks + 1) (UNITS * unit) not_end) (ap (at unit) (omega arith))

-- the last tick of a unit that is not the last
pub next_unit : (units unit ticks : ℕ) → units + 1 < UNITS → ticks < unit → unit ≤ ticks + 1
    → at unit ((units + 1) * unit + 0) ≡ at unit (next_count unit (units * unit + ticks))
next_unit units unit ticks fits below last =
    let most : (units + 1 + 1) * unit ≤ UNITS * unit = mul-le-mul_right unit (let h : units + 1 + 1 ≤ UNITS = omega arith in h) in
    let not_end : units * unit + ticks + 1 ≢ UNITS * unit = omega (arith, most) in
    rw (ne_eqb (units * unit + ticks + 1) (UNITS * unit) not_end) (ap (at unit) (omega arith))

-- a product is 0 only where a factor is
zero_factor : (a b : ℕ) → 0 < b → a * b ≡ 0 → a ≡ 0
zero_factor a b above h = grind arith

-- a multiple of some units: no ticks beyond, and a multiple of that number of units
multiple : (units unit ticks power : ℕ) → ticks < unit
    → (units * unit + ticks) % (unit * 2 ^ power) ≡ (units % 2 ^ power) * unit + ticks
multiple units unit ticks power below =
    ap (λ (m : ℕ). (units * unit + ticks) % m) (mul_comm unit (2 ^ power))
    ∙ (mod-mul (units * unit + ticks) {m = 2 ^ power} {c = unit} (pow_pos power) (omega arith)
    ∙ (ap (λ (n : ℕ). (n % 2 ^ power) * unit + (units * unit + ticks) % unit) (div-mul-add units unit ticks below)
    ∙ ap (λ (n : ℕ). (units % 2 ^ power) * unit + n) (mod-mul-add units unit ticks below)))

-- the mask of the code
low_bits : (units power : ℕ) → power < 13 → bit_and units (1 * 2 ^ power % 65536 - 1) ≡ units % 2 ^ power
low_bits units power small =
    ap (λ (n : ℕ). bit_and units (n - 1)) (one_shl power 16 (omega arith)) ∙ and_mask units power

-- where no ticks are beyond, the low bits of the units decide
pub multiple_by_bits : (units unit ticks power : ℕ) → ticks ≡ 0 → ticks < unit → power < 13
    → IsTrue (nat_eq (bit_and units (1 * 2 ^ power % 65536 - 1)) 0) ↔ ((units * unit + ticks) % (unit * 2 ^ power) ≡ 0)
multiple_by_bits units unit ticks power none below small =
    let bits = low_bits units power small in
    let rest = multiple units unit ticks power below in (
      λ h. let zero_bits : units % 2 ^ power ≡ 0 = sym bits ∙ eqb-true _ 0 h in rest ∙ rw (zero_bits, none) (omega arith),
      λ h. eq-eqb _ 0 (bits ∙ zero_factor (units % 2 ^ power) unit (omega arith) (let e : (units % 2 ^ power) * unit ≡ 0 = omega (arith, sym rest ∙ h) in e)),
    )

-- where ticks are beyond, it is no multiple
pub no_multiple : (units unit ticks power : ℕ) → (ticks ≡ 0 → ⊥) → ticks < unit
    → IsTrue (nat_eq ticks 0) ↔ ((units * unit + ticks) % (unit * 2 ^ power) ≡ 0)
no_multiple units unit ticks power some below =
    let rest = multiple units unit ticks power below in
    (λ h. absurd (some (eqb-true _ 0 h)), λ h. absurd (some (omega (arith, sym rest ∙ h))))

-- the end of the second is near by the whole units alone
pub near_by_units : (units unit ticks : ℕ) → ticks < unit → nat_le NEAR_END units ≡ is_near_end unit (units * unit + ticks)
near_by_units units unit ticks below =
    ⊎_elim
    (λ (h : (nat_le NEAR_END units ≡ true) × (NEAR_END ≤ units)). h.0 ∙ sym (le-leb _ _ (omega (arith, mul-le-mul_right unit h.1))))
    (λ (h : (nat_le NEAR_END units ≡ false) × (units < NEAR_END)).
    let most : (units + 1) * unit ≤ NEAR_END * unit = mul-le-mul_right unit (let k : units + 1 ≤ NEAR_END = omega arith in k) in
    h.0 ∙ sym (lt-leb _ _ (omega (arith, most))))
    (leb_tells NEAR_END units)

-- two counts of one unit are equal only where their parts are
pub same_parts : (units ticks unit units' ticks' unit' : ℕ) → ticks < unit → ticks' < unit'
    → at unit (units * unit + ticks) ≡ at unit' (units' * unit' + ticks') → (units ≡ units') × (ticks ≡ ticks')
same_parts units ticks unit units' ticks' unit' below below' same =
    let one_unit : unit' ≡ unit = sym (ap (λ (t : Ticks). t.unit) same) in
    let count = ap (λ (t : Ticks). t.count) same in
    same_from_place units ticks units' ticks' unit below (rw (← one_unit) below') (rw one_unit at count)
