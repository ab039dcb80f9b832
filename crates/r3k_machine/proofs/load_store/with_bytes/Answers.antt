use Rattle.std.proofs.Common.{◌≡◌, ◌^◌, ◌-◌, ◌<◌, ℕ, sym, ap, ◌∙◌, arith}
use Rattle.std.specs.Prelude.{bit_and, bit_or}
use Rattle.std.proofs.lemmas.Nat.{and_mask, and_le_r}
use Rattle.r3k_machine.proofs.load_store.with_bytes.Goals as goal

all_lanes : (old word : ℕ) → word < 2 ^ 32 → word ≡ bit_or (bit_and old 0) (bit_and word (2 ^ 32 - 1))
all_lanes old word fits =
    let none : bit_and old 0 ≡ 0 = omega (arith, and_le_r old 0) in
    let all : bit_and word (2 ^ 32 - 1) ≡ word = and_mask word 32 ∙ omega (arith, fits) in
    sym (ap (λ (n : ℕ). bit_or n (bit_and word (2 ^ 32 - 1))) none ∙ ap (bit_or 0) all)

pub returns-then-lanes-eq15 : goal.returns-then-lanes-eq15
returns-then-lanes-eq15 c = rw c.if-lanes-eq15.true (all_lanes c.args.old c.args.new c.ranges.new.fits)
