use Rattle.std.proofs.Common.{arith}
use Rattle.r3k_live.proofs.Noted.{noted_more, room_more}
use Rattle.r3k_live.proofs.virtual_pages.add.Goals as goal

pub push_reserved-requires : goal.push_reserved-requires
push_reserved-requires c =
    let room = room_more _ c.args.marks.now.items c.args.pages.now.items c.args.page c.requires.noted c.requires.within c.requires.free in
    omega (arith, room, c.args.pages.now.ok.0)

pub returns-clause-noted : goal.returns-clause-noted
returns-clause-noted c =
    rw (c.push_reserved.ensures.items, c.push_reserved.ensures.capacity)
    (noted_more _ c.args.marks.now.items c.args.pages.now.items c.args.page c.requires.noted c.requires.within c.requires.free)
