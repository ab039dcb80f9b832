use Rattle.std.proofs.Common.{◌≡◌, length, sym, ap, ◌∙◌, arith}
use Rattle.r3k_live.specs.Stores.{Stores}
use Rattle.r3k_live.proofs.Holding.{held_page, held_rom}
use Rattle.r3k_live.proofs.stores.Stores.held.Goals as goal
use Rattle.r3k_live.proofs.stores.Stores.held.Goals.{else-page-via-then-page+else-not-hold_page, else-page-via-else-page}

pub loop-page-preserved : goal.loop-page-preserved
loop-page-preserved g c =
    let pages = c.pages-page-items.result.now in
    let k = c.loop-page.page-index in
    let view = ap (λ (s : Stores). s.last) c.self.view_is in
    let last = c.args.self.now.last in
    let words = c.args.words.now in
    elim c.else-page.branch [
      | else-page-via-then-page+else-not-hold_page w ↦
          let last_is : w.deref.result.now ≡ last = w.deref.ensures.value ∙ view in
          rw w.held-is
          (held_page c.args.since k last words pages c.loop-page.held.items w.hold_page.new.held.items c.loop-page-test.true
          (rw last_is at w.hold_page.ensures.are) w.hold_page.ensures.more (rw last_is at (w.hold_page.ensures.all w.if-not-hold_page.false)) c.loop-page.invariant)
      | else-page-via-else-page w ↦
          rw w.held-is
          (held_rom c.args.since k g.row.PAGES last words pages c.loop-page.held.items c.loop-page-test.true (ap length (sym view) ∙ c.self.invariant.long)
          (omega (arith, w.if-page.false)) c.loop-page.invariant)
    ]
