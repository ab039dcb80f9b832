-- One more number.
use Rattle.std.proofs.Common.{◌≡◌, ◌-◌, ◌+◌, suc, ◌∷◌, [], ◌++◌, take, set, arith, sym, ap, ◌∙◌, cond, Some, None}
use Rattle.std.proofs.lemmas.List.{take_all, take_more_set, length-set}
use Rattle.asm_line.specs.Operand.{number_at}
use Rattle.asm_line.specs.Statement.{numbers_at}
use Rattle.asm_line.proofs.Numbers.{with_front, one_more, no_more, ends}
use Rattle.asm_line.proofs.clock.numbers.Goals as goal

pub returns-in_err-number : goal.returns-in_err-number
returns-in_err-number c =
    let left : 12 - c.loop-place.place ≡ suc (12 - (c.loop-place.place + 1)) = omega arith in
    rw c.from_residual.ensures
    (sym (no_more (take c.loop-place.place c.loop-place.numbers) c.loop-place.rest.now (12 - (c.loop-place.place + 1)) (c.in_err-number.ensures ∙ ap number_at c.skip_blanks.ensures))
    ∙ ap (λ n. with_front (take c.loop-place.place c.loop-place.numbers) (numbers_at n c.loop-place.rest.now)) (sym left)
    ∙ c.loop-place.invariant.numbers)

pub loop-place-preserved : goal.loop-place-preserved
loop-place-preserved c =
    let k = c.loop-place.place in
    let xs = c.loop-place.numbers in
    let n = c.in_ok-number.number in
    let left : 12 - k ≡ suc (12 - (k + 1)) = omega arith in
    let front : take (k + 1) (set xs k n) ≡ take k xs ++ n ∷ [] = take_more_set xs k n (omega (arith, c.loop-place.invariant.len)) in
    record {
      numbers =
          ap (λ f. with_front f (numbers_at (12 - (k + 1)) c.in_ok-number.after.now)) front
          ∙ sym (one_more (take k xs) c.loop-place.rest.now c.in_ok-number.after.now (12 - (k + 1)) n (c.in_ok-number.ensures ∙ ap number_at c.skip_blanks.ensures))
          ∙ ap (λ m. with_front (take k xs) (numbers_at m c.loop-place.rest.now)) (sym left)
          ∙ c.loop-place.invariant.numbers;
      len = length-set xs k n ∙ c.loop-place.invariant.len;
    }

pub returns-then-is_blank : goal.returns-then-is_blank
returns-then-is_blank c =
    let k = c.loop-place.place in
    let xs = c.loop-place.numbers in
    let none : 12 - k ≡ 0 = omega arith in
    ap (λ b. cond b (Some xs) None) c.if-is_blank.ensures
    ∙ sym (ends xs c.loop-place.rest.now)
    ∙ ap (λ f. with_front f (numbers_at 0 c.loop-place.rest.now)) (sym (take_all k xs (omega (arith, c.loop-place.invariant.len))))
    ∙ ap (λ m. with_front (take k xs) (numbers_at m c.loop-place.rest.now)) (sym none)
    ∙ c.loop-place.invariant.numbers

pub returns-else-is_blank : goal.returns-else-is_blank
returns-else-is_blank c =
    let k = c.loop-place.place in
    let xs = c.loop-place.numbers in
    let none : 12 - k ≡ 0 = omega arith in
    ap (λ b. cond b (Some xs) None) c.if-is_blank.ensures
    ∙ sym (ends xs c.loop-place.rest.now)
    ∙ ap (λ f. with_front f (numbers_at 0 c.loop-place.rest.now)) (sym (take_all k xs (omega (arith, c.loop-place.invariant.len))))
    ∙ ap (λ m. with_front (take k xs) (numbers_at m c.loop-place.rest.now)) (sym none)
    ∙ c.loop-place.invariant.numbers
