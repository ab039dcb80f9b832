use Rattle.std.proofs.Common.{◌∙◌, ◌*◌, ap, length, arith}
use Rattle.std.proofs.lemmas.List.FromFn.{length-map-range_with_len}
use Rattle.r3k_word.specs.declared.layout.TheConstants.{PAGE_WORDS}
use Rattle.r3k_machine.specs.Reset.{reset_word}
use Rattle.r3k_live.proofs.Slots.{all_unused}
use Rattle.r3k_live.proofs.flat.FlatMemory.boot.Goals as goal

pub invariant_of-result-clause-whole : goal.invariant_of-result-clause-whole
invariant_of-result-clause-whole g c =
    ap length c.loop-page.invariant
    ∙ (length-map-range_with_len (reset_word g.row.PAGES c.args.image.now) 0 (c.loop-page.page * PAGE_WORDS) ∙ omega arith)

pub invariant_of-result-clause-kept : goal.invariant_of-result-clause-kept
invariant_of-result-clause-kept g c =
    let known = c.in_ok-known.ensures {u = tt} in
    let opened = c.in_ok-opened.ensures {u = tt} in
    all_unused g.row.PAGES c.loop-page.words.items c.in_ok-known.known.items c.in_ok-opened.opened.items c.stop-stop.result c.requires c.stop-stop.ensures
    known.room opened.long opened.unused known.nothing
