use Rattle.std.proofs.Common.{◌≡◌, ◌||◌, ℕ, length, nat_eq, slice_index, take}
use Rattle.r3k_pages.specs.Pages.{holds}
use Rattle.r3k_live.proofs.ready_pages.take_out.Given as goal

-- the pages so far
abbrev pub invariant-loop-number : goal.invariant-loop-number
invariant-loop-number l = record {
  long : length l.pages.items ≡ length l.fn.pages.items;
  left : (number : ℕ) → nat_eq (slice_index l.pages.items number) 0 ≡ (nat_eq (slice_index l.fn.pages.items number) 0 || holds (take l.number-index l.numbers) number);
}
