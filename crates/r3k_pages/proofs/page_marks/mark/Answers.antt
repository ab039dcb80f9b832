use Rattle.std.proofs.Common.{arith}
use Rattle.r3k_pages.proofs.Marked.{free_at, marked_more, room_more}
use Rattle.r3k_pages.proofs.page_marks.mark.Goals as goal

pub push_reserved-requires : goal.push_reserved-requires
push_reserved-requires g c =
    let free = free_at c.args.marks.now.items c.args.page c.index.result.now c.index.ensures c.if-index.false in
    let room = room_more g.row.PAGES _ c.args.marks.now.items c.args.pages.now.items c.args.page c.requires.marked c.requires.within free in
    omega (arith, room, c.args.pages.now.ok.0)

pub returns-clause-marked : goal.returns-clause-marked
returns-clause-marked g c =
    rw (c.push_reserved.ensures.items, c.push_reserved.ensures.capacity)
    (marked_more g.row.PAGES _ c.args.marks.now.items c.args.pages.now.items c.args.page c.requires.marked c.requires.within
    (free_at c.args.marks.now.items c.args.page c.index.result.now c.index.ensures c.if-index.false))
