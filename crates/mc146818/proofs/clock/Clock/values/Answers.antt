use Rattle.std.proofs.Common.{◌≡◌, ◌<◌, ℕ, ◌++◌, ◌∷◌, [], List, length, length-set, sym, ap, ◌∙◌, arith}
use Rattle.std.proofs.Math.Path.{ap₂}
use Rattle.std.proofs.lemmas.List.{take_more, take_more_set}
use Rattle.mc146818.specs.Clock.{ClockState, registers}
use Rattle.mc146818.proofs.clock.Clock.values.Goals as goal

-- there are 64
all_there : (ram : List ℕ) (clock : ClockState) → ram ≡ clock.ram → length ram ≡ 50 → length (registers clock) ≡ 64
all_there ram clock is long = omega (arith, ap (λ (xs : List ℕ). length xs) is, long)

pub loop-register-preserved : goal.loop-register-preserved
loop-register-preserved c =
    let k = c.loop-register.register in
    let values = c.loop-register.values in
    let all = registers c.args.self.now in
    let whole : length all ≡ 64 = all_there c.self.inside.ram c.args.self.now (ap (λ (k : ClockState). k.ram) c.self.view_is) c.self.invariant.2 in record {
      so_far =
          take_more_set values k c.value.result (let e : k < length values = omega (arith, c.loop-register.invariant.long, c.loop-register-test.true) in e)
          ∙ (ap₂ (λ (xs : List ℕ) (x : ℕ). xs ++ x ∷ []) c.loop-register.invariant.so_far c.value.ensures
          ∙ sym (take_more all k 0 (let e : k < length all = omega (arith, whole, c.loop-register-test.true) in e)));
      long = length-set values k c.value.result ∙ c.loop-register.invariant.long;
    }
