use Rattle.std.proofs.Common.{take}
use Rattle.r3k_live.proofs.Holding.{AreOfPages}
use Rattle.r3k_live.proofs.stores.Stores.held.Given as goal

-- the words of the pages so far
abbrev pub invariant-loop-page : goal.invariant-loop-page
invariant-loop-page g l = AreOfPages l.since l.self.last l.words (take l.page-index l.page-items) l.held.items
