use Rattle.std.proofs.Common.{◌∙◌, ℕ, ◌+◌, ◌*◌, slice_set, sym, subst, arith}
use Rattle.std.proofs.lemmas.Grind.{get_or_default_zero}
use Rattle.r3k_machine.specs.Known.{IsDecoded}
use Rattle.r3k_live.specs.Slots.{AreKnown}
use Rattle.r3k_live.proofs.Slots.{word_learned}
use Rattle.r3k_word.specs.declared.layout.TheConstants.{PAGE_WORDS}
use Rattle.r3k_live.specs.declared.flat.TheConstants.{SLOT_WORDS}
use Rattle.r3k_live.proofs.flat.FlatMemoryMem.learn.Goals as goal

pub invariant_of-self-clause-kept : goal.invariant_of-self-clause-kept
invariant_of-self-clause-kept g c =
    let memory = c.args.self.now in
    let place = c.args.page * PAGE_WORDS + c.args.index in
    let word = c.index-2.ensures ∙ get_or_default_zero memory.words.items place c.index-2.result.now (omega (arith, memory.whole, c.requires.page, c.requires.index)) in
    subst (λ (slot : ℕ). AreKnown g.row.PAGES memory.words.items (slice_set memory.known.items (slot * SLOT_WORDS + c.args.index) c.in-Some.insn) memory.opened.items)
    (sym c.slot_of.ensures.slot)
    (word_learned g.row.PAGES memory.words.items memory.known.items memory.opened.items c.args.page c.args.index c.in-Some.insn memory.kept memory.range c.requires.page c.requires.index
    c.requires.opened (subst (λ (n : ℕ). IsDecoded n c.in-Some.insn) word (c.in-Some.ensures {u = tt})))
