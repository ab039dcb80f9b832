use Rattle.r3k_pages.proofs.Set.{pointers_set}
use Rattle.r3k_pages.proofs.snapshot.Snapshot.with_word.Goals as goal

pub returns : goal.returns
returns g c =
    let set = c.in_ok-groups-2.ensures {u = tt} in
    pointers_set (λ group. group.value) c.in_ok-groups.groups.items c.self.inside.groups.items c.index.result.now c.in_ok-groups-2.field-0 c.deref.result.now
    g.row.PAGES c.page_of-page.result c.args.place c.args.word c.args.self.now
    c.page_of-page.ensures (c.in_ok-groups.ensures {u = tt}) c.self.view_is c.self.invariant.0 c.requires
    c.deref.ensures c.index.ensures set.set set.pages set.words
