use Rattle.std.proofs.Common.{◌/◌, List, slice_set, sym, subst, inl, inr}
use Rattle.std.proofs.lemmas.Bool.{cases_Bool}
use Rattle.r3k_decode.specs.Operation.{Operation}
use Rattle.r3k_live.specs.Slots.{AreKnown, is_open}
use Rattle.r3k_live.proofs.Slots.{word_stored, word_stored_apart}
use Rattle.r3k_word.specs.declared.layout.TheConstants.{PAGE_WORDS}
use Rattle.r3k_live.proofs.flat.FlatMemoryMem.set_word.Goals as goal

pub invariant_of-self-clause-kept : goal.invariant_of-self-clause-kept
invariant_of-self-clause-kept g c =
    let memory = c.args.self.now in
    let there = λ (known : List Operation). AreKnown g.row.PAGES (slice_set memory.words.items c.args.place c.args.value) known memory.opened.items in
    elim (cases_Bool (is_open g.row.PAGES memory.opened.items (c.args.place / PAGE_WORDS))) [
      | inl is ↦
          subst there (sym (c.forget_word.ensures.opened is))
          (word_stored g.row.PAGES memory.words.items memory.known.items memory.opened.items c.args.place c.args.value memory.stop memory.kept memory.stops
          (rw memory.whole at c.requires))
      | inr is ↦
          subst there (sym (c.forget_word.ensures.closed is))
          (word_stored_apart g.row.PAGES memory.words.items memory.known.items memory.opened.items c.args.place c.args.value memory.kept is)
    ]
