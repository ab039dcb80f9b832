-- What the address means, whichever way it was found, settles the isolated store.
use Rattle.std.proofs.Common.{◌≡◌, Ok, refl, sym}
use Rattle.r3k_machine.specs.Address.{Meaning, meaning, met}
use Rattle.r3k_machine.specs.LoadStore.{meaning_of_store}
use Rattle.r3k_machine.proofs.load_store.store.Goals.{in-Unmapped, in_default+in_ok-physical-in_default}
use Rattle.r3k_machine.proofs.load_store.store.Goals as goal

pub returns-then-is_isolated-clause-core : goal.returns-then-is_isolated-clause-core
unfolding meaning
returns-then-is_isolated-clause-core g c =
    let m : Meaning = meaning_of_store c.args.core.now c.args.kind c.args.address in
    let found : (m.answer ≡ Ok c.match-segment.physical) × (met c.args.core.now m ≡ c.match-segment.core) =
    elim c.match-segment.branch [
      | in-Unmapped w ↦ (
        rw (w.physical-is, ← c.is_aligned-aligned.ensures, ← c.segment.ensures, w.in-Unmapped.is) refl,
        rw (w.core-is, ← c.is_aligned-aligned.ensures, ← c.segment.ensures, w.in-Unmapped.is) refl,
      )
      | in_default+in_ok-physical-in_default w ↦ (
        rw w.physical-is (sym (rw c.is_aligned-aligned.ensures at w.in_ok-physical-in_default.ensures.answer)),
        rw w.core-is (sym (rw c.is_aligned-aligned.ensures at w.in_ok-physical-in_default.ensures.core)),
      )
    ] in
    rw (found.0, found.1, ← c.is_isolated.ensures, c.if-is_isolated.true, c.store_isolated.ensures) refl

pub returns-then-is_isolated-clause-words : goal.returns-then-is_isolated-clause-words
unfolding meaning
returns-then-is_isolated-clause-words g c =
    let m : Meaning = meaning_of_store c.args.core.now c.args.kind c.args.address in
    let found : (m.answer ≡ Ok c.match-segment.physical) × (met c.args.core.now m ≡ c.match-segment.core) =
    elim c.match-segment.branch [
      | in-Unmapped w ↦ (
        rw (w.physical-is, ← c.is_aligned-aligned.ensures, ← c.segment.ensures, w.in-Unmapped.is) refl,
        rw (w.core-is, ← c.is_aligned-aligned.ensures, ← c.segment.ensures, w.in-Unmapped.is) refl,
      )
      | in_default+in_ok-physical-in_default w ↦ (
        rw w.physical-is (sym (rw c.is_aligned-aligned.ensures at w.in_ok-physical-in_default.ensures.answer)),
        rw w.core-is (sym (rw c.is_aligned-aligned.ensures at w.in_ok-physical-in_default.ensures.core)),
      )
    ] in
    rw (found.0, found.1, ← c.is_isolated.ensures, c.if-is_isolated.true) refl

pub returns-then-is_isolated-clause-differ : goal.returns-then-is_isolated-clause-differ
returns-then-is_isolated-clause-differ g c = refl
