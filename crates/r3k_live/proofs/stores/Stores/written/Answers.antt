use Rattle.std.proofs.Common.{◌≡◌, ℕ, List, ◌++◌, length, take, sym, ap, ◌∙◌, arith, slice_index}
use Rattle.std.proofs.Math.Seq.{take-length}
use Rattle.std.proofs.lemmas.List.{append-nil}
use Rattle.std.specs.List.{flat_map}
use Rattle.r3k_pages.proofs.Ascending.{if_ok_too}
use Rattle.r3k_live.specs.Stores.{Stores}
use Rattle.r3k_live.specs.declared.recorder.Written.{Written}
use Rattle.r3k_live.proofs.Writers.{all_pages, in_page, none_in_rom, page_more}
use Rattle.r3k_live.proofs.stores.Stores.written.Goals as goal
use Rattle.r3k_live.proofs.stores.Stores.written.Goals.{then-page+in_ok-add_of_page, else-page}

pub loop-page-init : goal.loop-page-init
loop-page-init g c = c.new-written.ensures.items

pub loop-page-preserved : goal.loop-page-preserved
loop-page-preserved g c =
    let inside = c.self.inside.last.items in
    let pages = c.deref-page-items.result.now in
    let page = slice_index pages c.loop-page.page-index in
    let view = ap (λ (s : Stores). s.last) c.self.view_is in
    let more = page_more c.args.self.now.last pages c.loop-page.page-index c.loop-page-test.true in
    elim c.if-page.branch [
      | then-page+in_ok-add_of_page w ↦
          rw w.written-is
          (w.in_ok-add_of_page.ensures {u = tt}
          ∙ (ap (λ (last : List ℕ). c.loop-page.written.items ++ in_page last page) (w.deref.ensures.value ∙ view)
          ∙ (ap (λ (ws : List Written). ws ++ in_page c.args.self.now.last page) c.loop-page.invariant ∙ sym more)))
      | else-page w ↦
          rw w.written-is
          (sym (append-nil c.loop-page.written.items)
          ∙ (ap (λ (ws : List Written). c.loop-page.written.items ++ ws)
          (sym (none_in_rom g.row.PAGES page c.args.self.now.last (ap length (sym view) ∙ c.self.invariant.long) (omega (arith, w.if-page.false))))
          ∙ (ap (λ (ws : List Written). ws ++ in_page c.args.self.now.last page) c.loop-page.invariant ∙ sym more)))
    ]

pub returns : goal.returns
returns g c =
    let inside = c.self.inside in
    let pages = c.deref-page-items.result.now in
    let view = ap (λ (s : Stores). s.last) c.self.view_is in
    if_ok_too _ c.from_slice.result c.from_slice.ensures.items
    (λ written copied.
    copied
    ∙ (c.deref-2.ensures.value
    ∙ (c.loop-page.invariant
    ∙ (ap (λ (n : ℕ). flat_map (in_page c.args.self.now.last) (take n pages))
    (let e : c.loop-page.page-index ≡ length pages = omega (arith, c.loop-page.auto.page-index-end, c.loop-page-test.false) in e)
    ∙ (ap (flat_map (in_page c.args.self.now.last)) (take-length pages ∙ (c.deref-page-items.ensures.value ∙ (c.in_ok-ascending.ensures {u = tt}).pages))
    ∙ all_pages g.row.PAGES c.args.self.now.last inside.dirty (ap length (sym view) ∙ c.self.invariant.long) (rw view at c.self.invariant.pages_marked))))))
