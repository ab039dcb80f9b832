use Rattle.std.proofs.Common.{refl}
use Rattle.r3k_machine.proofs.execute.perform_effect.Goals.{in-Write, in-WriteHi, in-WriteLo, in-WriteHiLo, in-Jump, in-JumpAndLink, in-MoveFromControl, in-MoveToControl, in-ReturnFromException, in-ReadEntry, in-WriteIndexedEntry, in-WriteRandomEntry, in-ProbeEntry}
use Rattle.r3k_machine.proofs.execute.perform_effect.Goals as goal

pub returns-in-Load-clause-completes : goal.returns-in-Load-clause-completes
returns-in-Load-clause-completes g c = rw (
  c.in-Load.is,
  c.loading.ensures,
  c.in_ok-loaded-in-Load.ensures.core,
  ← c.in_ok-loaded-in-Load.ensures.loaded,
) refl

pub returns-in-Store-clause-completes : goal.returns-in-Store-clause-completes
returns-in-Store-clause-completes g c = rw (
  c.in-Store.is,
  c.storing.ensures,
  c.complete-in-Store.ensures,
  c.in_ok-stored-in-Store.ensures.words,
  c.in_ok-stored-in-Store.ensures.core,
  ← c.in_ok-stored-in-Store.ensures.stored,
) refl

pub returns-clause-completes : goal.returns-clause-completes
returns-clause-completes g c =
    elim c.match-effect.branch [
      | in-Write w ↦ rw (c.completing.ensures, c.of_effect.ensures, w.effect-is, w.in-Write.is, w.core-is, w.set_register.ensures, w.complete.ensures) refl
      | in-WriteHi w ↦ rw (c.completing.ensures, c.of_effect.ensures, w.effect-is, w.in-WriteHi.is, w.core-is, w.set_hi.ensures, w.complete-in-WriteHi.ensures) refl
      | in-WriteLo w ↦ rw (c.completing.ensures, c.of_effect.ensures, w.effect-is, w.in-WriteLo.is, w.core-is, w.set_lo.ensures, w.complete-in-WriteLo.ensures) refl
      | in-WriteHiLo w ↦ rw (
        c.completing.ensures,
        c.of_effect.ensures,
        w.effect-is,
        w.in-WriteHiLo.is,
        w.core-is,
        w.set_lo-in-WriteHiLo.ensures,
        w.set_hi-in-WriteHiLo.ensures,
        w.complete-in-WriteHiLo.ensures,
      ) refl
      | in-Jump w ↦ rw (c.completing.ensures, c.of_effect.ensures, w.effect-is, w.in-Jump.is, w.core-is, w.branch-core.ensures, w.complete-in-Jump.ensures) refl
      | in-JumpAndLink w ↦ rw (
        c.completing.ensures,
        c.of_effect.ensures,
        w.effect-is,
        w.in-JumpAndLink.is,
        w.core-is,
        w.set_register-in-JumpAndLink.ensures,
        w.branch-core-in-JumpAndLink.ensures,
        w.complete-in-JumpAndLink.ensures,
      ) refl
      | in-MoveFromControl w ↦ rw (
        c.completing.ensures,
        c.of_effect.ensures,
        w.effect-is,
        w.in-MoveFromControl.is,
        w.core-is,
        w.set_slot.ensures,
        w.complete-in-MoveFromControl.ensures,
        w.read-value.ensures,
        w.number.ensures.value,
        w.cop0.ensures,
      ) refl
      | in-MoveToControl w ↦ rw (
        c.completing.ensures,
        c.of_effect.ensures,
        w.effect-is,
        w.in-MoveToControl.is,
        w.core-is,
        w.write_control.ensures,
        w.complete-in-MoveToControl.ensures,
      ) refl
      | in-ReturnFromException w ↦ rw (
        c.completing.ensures,
        c.of_effect.ensures,
        w.effect-is,
        w.in-ReturnFromException.is,
        w.core-is,
        w.return_from_exception.ensures,
        w.complete-in-ReturnFromException.ensures,
      ) refl
      | in-ReadEntry w ↦ rw (
        c.completing.ensures,
        c.of_effect.ensures,
        w.effect-is,
        w.in-ReadEntry.is,
        w.core-is,
        w.read_entry.ensures,
        w.complete-in-ReadEntry.ensures,
      ) refl
      | in-WriteIndexedEntry w ↦ rw (
        c.completing.ensures,
        c.of_effect.ensures,
        w.effect-is,
        w.in-WriteIndexedEntry.is,
        w.core-is,
        w.write_entry.ensures,
        w.complete-in-WriteIndexedEntry.ensures,
      ) refl
      | in-WriteRandomEntry w ↦ rw (
        c.completing.ensures,
        c.of_effect.ensures,
        w.effect-is,
        w.in-WriteRandomEntry.is,
        w.core-is,
        w.write_entry-in-WriteRandomEntry.ensures,
        w.complete-in-WriteRandomEntry.ensures,
      ) refl
      | in-ProbeEntry w ↦ rw (
        c.completing.ensures,
        c.of_effect.ensures,
        w.effect-is,
        w.in-ProbeEntry.is,
        w.core-is,
        w.probe_entry.ensures,
        w.complete-in-ProbeEntry.ensures,
      ) refl
    ]
