-- The word is set where it has a place.
use Rattle.refusal.specs.declared.fault.Fault.{Fault}
use Rattle.refusal.specs.declared.fault.Fault.TheVariants.{NotMemory, Unaligned}
use Rattle.std.proofs.lemmas.Bool.{eq-eqb}
use Rattle.std.proofs.Common.{◌≡◌, ℕ, Bool, cond, eqb, ◌%◌, true, false, not, Option, Some, None, inl, refl, sym, ap, subst, ◌∙◌, arith, Result, Ok, Err}
use Rattle.std.specs.Prelude.{IsSome, is_some, is_ok, OnOk}
use Rattle.r3k_word.specs.Layout.{place_of_word}
use Rattle.r3k_image.proofs.SetWords.{placed}
use Rattle.r3k_word.specs.declared.layout.TheConstants.{MAX_RAM_PAGES}
use Rattle.r3k_image.specs.Boot.{Boot}
use Rattle.r3k_image.specs.Segments.{views}
use Rattle.r3k_image.specs.Patch.{patched, patched_at}
use Rattle.r3k_image.proofs.Patched.{patch_taken}
use Rattle.r3k_image.proofs.Patching.{patched_words}
use Rattle.r3k_image.proofs.image.Image.patch.Goals as goal

from_ok : {A E : Type 0} (r : Result A E) (P : Type 0) → OnOk r P → is_ok r ≡ true → P
from_ok (Ok x) P p ok = p
from_ok (Err e) P p ok = absurd cc

pub returns : goal.returns
returns c =
    let old = views c.self.inside.segments.items in
    let place : IsSome (place_of_word MAX_RAM_PAGES c.args.address) =
    subst IsSome c.place_of.ensures (c.is_none.ensures ∙ ap not c.if-is_none.false) in
    let words = patched_words c.args.address c.args.word old (views c.put_word.new.segments.items) c.self.invariant.stand
    (placed 0 c.args.address c.args.word (omega arith) (
      place,
      omega arith,
    )) (from_ok c.put_word.result _ c.put_word.ensures.words c.if-is_err.ensures.negation) in
    patch_taken c.args.address c.args.word c.args.self.now place
    ∙ ap (λ (boot : Boot). Ok (patched c.args.address c.args.word boot)) (sym c.self.view_is)
    ∙ (λ i. Ok (record {
      words = sym words i;
      byte_time = c.self.inside.byte_time;
      unit = c.self.inside.unit;
      clock_start =
          c.self.inside.clock_start;
    }))

no_place : (place : Option ℕ) → is_some place ≡ false → place ≡ None
no_place None same = refl
no_place (Some place) same = cc

refused : (aligned : Bool) (place : Option ℕ) (boot : Boot) → aligned ≡ true → place ≡ None
    → cond {A = Result Boot Fault} aligned (patched_at place boot) (Err Unaligned) ≡ Err NotMemory
refused aligned place boot is none = rw (is, none) refl

pub returns-then-is_none : goal.returns-then-is_none
returns-then-is_none c = (
  refl,
  inl (refused (eqb (c.args.address % 4) 0) (place_of_word MAX_RAM_PAGES c.args.address) (patched c.args.address c.args.word c.args.self.now)
      (eq-eqb _ _ (omega arith)) (sym c.place_of.ensures ∙ no_place c.place_of.result c.if-is_none.ensures)),
)
