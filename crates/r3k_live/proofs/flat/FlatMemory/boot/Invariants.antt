use Rattle.std.proofs.Common.{◌≡◌, ◌*◌, map}
use Rattle.std.specs.List.{range_with_len}
use Rattle.r3k_word.specs.declared.layout.TheConstants.{PAGE_WORDS}
use Rattle.r3k_machine.specs.Reset.{reset_word}
use Rattle.r3k_live.proofs.flat.FlatMemory.boot.Given as goal

-- the words so far
abbrev pub invariant-loop-page : goal.invariant-loop-page
invariant-loop-page g l = l.words.items ≡ map (reset_word g.row.PAGES l.image) (range_with_len 0 (l.page * PAGE_WORDS))
