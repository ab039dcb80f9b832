use Rattle.std.proofs.Common.{◌≡◌, ◌<◌, not, nat_eq, slice_index, sym, ap, ◌∙◌, inl, inr}
use Rattle.std.proofs.lemmas.Bool.{cases_Bool, eqb-true, true≢false}
use Rattle.std.proofs.lemmas.Grind.{get_or_default_zero}
use Rattle.r3k_live.specs.declared.flat.TheConstants.{SLOTS, UNUSED}
use Rattle.r3k_live.proofs.Slots.{slot_taken, slot_within}
use Rattle.r3k_live.proofs.flat.FlatMemory.take_slot.Goals as goal

pub forget-requires : goal.forget-requires
forget-requires g c =
    let memory = c.args.self.now in
    let slot : c.args.slot < SLOTS = rw c.requires.slot (slot_within g.row.PAGES c.args.page c.requires.page) in
    let here : c.index.result.now ≡ slice_index memory.opened.items c.args.slot =
    c.index.ensures ∙ get_or_default_zero memory.opened.items c.args.slot c.index.result.now (rw memory.kept.slots slot) in record {
      room = memory.kept.room;
      slot = slot;
      stop = memory.stops;
      unused = λ fresh index d inside.
          elim (cases_Bool (nat_eq c.index.result.now UNUSED)) [
            | inl same ↦ memory.kept.unused c.args.slot index d slot inside (sym here ∙ eqb-true c.index.result.now UNUSED same)
            | inr apart ↦ absurd (true≢false (sym (ap not apart) ∙ fresh))
          ];
    }

pub invariant_of-self-clause-kept : goal.invariant_of-self-clause-kept
invariant_of-self-clause-kept g c =
    let memory = c.args.self.now in
    slot_taken g.row.PAGES memory.words.items memory.known.items c.forget.new.known.items memory.opened.items c.args.page c.args.slot memory.kept memory.range
    c.requires.page c.requires.slot c.forget.ensures.room c.forget.ensures.there c.forget.ensures.others
