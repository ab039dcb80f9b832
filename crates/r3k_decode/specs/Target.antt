-- The targets of branches and jumps, after Kane and Heinrich, appendix A.
use Rattle.std.specs.Prelude.{ℕ, ◌+◌, ◌*◌, ◌%◌, ◌^◌}
use Rattle.r3k_word.specs.Word.{sum_of, sign_extended, with_field_of}

-- the target of a branch at an address: `imm` is its distance from the delay slot in words
abbrev pub branch_target_of : ℕ → ℕ → ℕ
branch_target_of address imm = (address + 4 + 4 * sign_extended 16 imm) % 2 ^ 32

-- the target of a jump at an address: a word in the 256 megabytes of its delay slot
abbrev pub jump_target_of : ℕ → ℕ → ℕ
jump_target_of address index = with_field_of 27 0 (sum_of address 4) (4 * index)
