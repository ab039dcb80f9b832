use Rattle.r3k_live.proofs.Noted.{none_noted}
use Rattle.r3k_live.proofs.virtual_pages.VirtualPages.new.Goals as goal

pub invariant_of-result : goal.invariant_of-result
invariant_of-result c =
    let room = c.in_ok-with_capacity.ensures {u = tt} in
    let marks = c.in_ok-unmarked.ensures {u = tt} in
    rw room.items (none_noted _ c.in_ok-unmarked.field-0.items marks.long marks.none room.capacity)
