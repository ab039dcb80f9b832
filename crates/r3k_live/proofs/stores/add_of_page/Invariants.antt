use Rattle.std.proofs.Common.{◌≡◌, ◌-◌, ◌*◌, ◌++◌}
use Rattle.r3k_word.specs.declared.layout.TheConstants.{PAGE_WORDS}
use Rattle.r3k_live.specs.Stores.{writers_in}
use Rattle.r3k_pages.specs.declared.block.TheConstants.{BLOCK_WORDS}
use Rattle.r3k_live.proofs.stores.add_of_page.Given as goal

-- the words of the blocks so far
abbrev pub invariant-loop-block : goal.invariant-loop-block
invariant-loop-block l = l.written.items ≡ l.fn.written.items ++ writers_in (l.page * PAGE_WORDS) ((l.block - l.first) * BLOCK_WORDS) l.last
