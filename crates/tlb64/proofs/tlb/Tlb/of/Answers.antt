use Rattle.std.proofs.Common.{◌∙◌, sym, arith}
use Rattle.std.proofs.lemmas.List.{ext_get_or}
use Rattle.tlb64.specs.Entries.{empty_entry}
use Rattle.tlb64.proofs.tlb.Tlb.of.Goals as goal

pub returns : goal.returns
returns c =
    ext_get_or empty_entry c.loop-place.tlb c.args.entries.now (c.loop-place.invariant.whole ∙ sym c.told-entries)
    (λ place below. c.loop-place.invariant.same place (omega (arith, below, c.loop-place.invariant.whole, c.loop-place-test.false)))
