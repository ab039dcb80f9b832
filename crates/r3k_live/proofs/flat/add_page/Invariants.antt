use Rattle.std.proofs.Common.{◌≡◌, map}
use Rattle.std.specs.List.{range_with_len}
use Rattle.r3k_machine.specs.Reset.{reset_word}
use Rattle.r3k_live.proofs.flat.add_page.Given as goal

-- the words so far
abbrev pub invariant-loop-place : goal.invariant-loop-place
invariant-loop-place l = l.words.items ≡ map (reset_word l.ram_pages l.image) (range_with_len 0 l.place)
