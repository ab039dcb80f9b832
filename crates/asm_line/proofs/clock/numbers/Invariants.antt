use Rattle.std.proofs.Common.{◌≡◌, ◌-◌, take, length}
use Rattle.asm_line.specs.Statement.{numbers_at}
use Rattle.asm_line.proofs.Numbers.{with_front}
use Rattle.asm_line.proofs.clock.numbers.Given as goal

abbrev pub invariant-loop-place : goal.invariant-loop-place
invariant-loop-place l = record {
  numbers : with_front (take l.place l.numbers) (numbers_at (12 - l.place) l.rest) ≡ numbers_at 12 l.text;
  len : length l.numbers ≡ 12;
}
