use Rattle.std.proofs.Common.{◌≡◌, take}
use Rattle.std.specs.List.{flat_map}
use Rattle.r3k_live.proofs.Writers.{in_page}
use Rattle.r3k_live.proofs.stores.Stores.written.Given as goal

-- the words of the pages so far
abbrev pub invariant-loop-page : goal.invariant-loop-page
invariant-loop-page g l = l.written.items ≡ flat_map (in_page l.self.last) (take l.page-index l.page-items)
