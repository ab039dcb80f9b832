-- How much room a number takes in decimal.
use Rattle.std.proofs.Common.{ℕ, ◌/◌, ◌^◌, ◌<◌, ◌≤◌, length, arith}
use Rattle.std.specs.Fmt.{decimal}
use Rattle.std.proofs.lemmas.Fmt.{length-decimal-le}

-- all digits but the last of a number of 64 bits
pub front_len : (n : ℕ) → n < 2 ^ 64 → length (decimal (n / 10)) ≤ 19
front_len n fits = length-decimal-le 19 (n / 10) (omega arith) (omega arith) (omega arith)
