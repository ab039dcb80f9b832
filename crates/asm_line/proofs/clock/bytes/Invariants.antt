use Rattle.std.proofs.Common.{◌≡◌, take, nat_lt, true, length}
use Rattle.std.specs.List.{list_all}
use Rattle.asm_line.proofs.clock.bytes.Given as goal

abbrev pub invariant-loop-place : goal.invariant-loop-place
invariant-loop-place l = record {
  bytes : list_all (λ n. nat_lt n 256) (take l.place l.numbers) ≡ true;
  same : take l.place l.bytes ≡ take l.place l.numbers;
  len : length l.bytes ≡ 12;
}
