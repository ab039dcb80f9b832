use Rattle.std.proofs.Common.{arith, map}
use Rattle.r3k_pages.proofs.Kept.{words_are}
use Rattle.r3k_pages.proofs.snapshot.Snapshot.made.Goals as goal

pub returns : goal.returns
returns g c =
    words_are g.row.PAGES (map (λ group. group.value) c.loop-group.groups.items) c.args.words.now c.requires.whole
    (λ place within. c.loop-group.invariant.groups place within (omega (arith, within, c.loop-group-test.false, c.group_count-count.ensures)))
