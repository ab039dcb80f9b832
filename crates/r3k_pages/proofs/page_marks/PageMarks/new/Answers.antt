use Rattle.std.proofs.Common.{arith}
use Rattle.r3k_pages.proofs.Marked.{none_marked}
use Rattle.r3k_pages.proofs.page_marks.PageMarks.new.Goals as goal

pub invariant_of-result : goal.invariant_of-result
invariant_of-result g c =
    let room = c.in_ok-with_capacity.ensures {u = tt} in
    let is = (c.in_ok-vec.ensures {u = tt}).items_if_clones_equal (λ y same. same) in
    rw room.items (none_marked g.row.PAGES _ c.page_count.result c.in_ok-vec.field-0.items c.requires is c.page_count.ensures (omega (arith, room.capacity, c.page_count-2.ensures)))
