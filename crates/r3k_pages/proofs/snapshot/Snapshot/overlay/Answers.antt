use Rattle.std.proofs.Common.{arith, ap, length, map, sym, ◌∙◌}
use Rattle.r3k_pages.specs.Pages.{overlaid}
use Rattle.r3k_pages.proofs.Kept.{words_are, words_long}
use Rattle.r3k_pages.proofs.Overlaid.{overlaid_long}
use Rattle.r3k_pages.proofs.snapshot.Snapshot.overlay.Goals as goal

pub returns : goal.returns
returns g c =
    words_are g.row.PAGES (map (λ group. group.value) c.loop-group.groups.items) (overlaid c.args.pages.now c.args.self.now c.args.other.now)
    (overlaid_long c.args.pages.now c.args.self.now c.args.other.now ∙ (sym (ap length c.self.view_is) ∙ words_long g.row.PAGES _))
    (λ place within. c.loop-group.invariant.groups place within (omega (arith, within, c.loop-group-test.false, c.len-group-end.ensures, c.self.invariant.0, c.self.inside.groups.ok.0)))
