use Rattle.std.proofs.Common.{◌≡◌, map, take}
use Rattle.r3k_pages.proofs.page.shared.Given as goal

-- the pointers so far
abbrev pub invariant-loop-pointer : goal.invariant-loop-pointer
invariant-loop-pointer g l = map (λ pointer. pointer.value) l.same.items ≡ map (λ pointer. pointer.value) (take l.pointer-index l.pointers.items)
