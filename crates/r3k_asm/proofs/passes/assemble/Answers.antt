-- Both passes, one after the other.
use Rattle.std.proofs.Common.{◌≡◌, Ok, Err, sym, ap, subst, ◌∙◌}
use Rattle.std.proofs.lemmas.Result.{err_from_is_err_and}
use Rattle.std.specs.Prelude.{unwrap_or}
use Rattle.r3k_image.specs.Boot.{Boot, plain_byte_time, plain_clock_start, plain_unit}
use Rattle.r3k_asm.specs.declared.fault.AsmFault.{AsmFault}
use Rattle.r3k_asm.specs.Source.{seen}
use Rattle.r3k_asm.specs.Meaning.{Answers, FailsOrLacks, linked, image_of}
use Rattle.r3k_asm.proofs.Links.{first_fails, second_fails, both_pass, finished}
use Rattle.r3k_asm.proofs.passes.assemble.Goals as goal

pub returns-in_err-words-clause-exact : goal.returns-in_err-words-clause-exact
returns-in_err-words-clause-exact c =
    let p = err_from_is_err_and c.from_residual.result c.from_residual.ensures.1 in
    let is : c.from_residual.result ≡ Err c.in_err-words.field-0.0 = p.1 ∙ ap (λ (f : AsmFault). Err f) p.2 in
    subst (λ r. Answers (λ (b : Boot). b) r (image_of c.args.text.now)) (sym is) (first_fails c.args.text.now c.in_err-words.field-0.0 c.in_err-words.ensures.lines)

pub returns-in_err-words-2-clause-exact : goal.returns-in_err-words-2-clause-exact
returns-in_err-words-2-clause-exact c =
    let p = err_from_is_err_and c.from_residual-in_err-words-2.result c.from_residual-in_err-words-2.ensures.1 in
    let is : c.from_residual-in_err-words-2.result ≡ Err c.in_err-words-2.field-0.0 = p.1 ∙ ap (λ (f : AsmFault). Err f) p.2 in
    let s = seen c.in_ok-words.field-0 in
    let fault = c.in_err-words-2.field-0.0 in
    subst (λ r. Answers (λ (b : Boot). b) r (image_of c.args.text.now)) (sym is)
    (second_fails c.args.text.now s fault c.in_ok-words.ensures.lines (subst (λ rs. FailsOrLacks fault (linked s.labels s.words rs)) c.deref.ensures.value c.in_err-words-2.ensures))

pub returns-clause-exact : goal.returns-clause-exact
returns-clause-exact c =
    let s = seen c.in_ok-words.field-0 in
    let words = c.in_ok-words-2.words in
    let linked_all : linked s.labels s.words s.references ≡ Ok words = subst (λ rs. linked s.labels s.words rs ≡ Ok words) c.deref.ensures.value c.in_ok-words-2.ensures in
    let time : c.unwrap_or-byte_time.result ≡ unwrap_or s.byte_time plain_byte_time = c.unwrap_or-byte_time.ensures ∙ ap (unwrap_or s.byte_time) c.plain_byte_time.ensures in
    let second : c.unwrap_or-unit.result ≡ unwrap_or s.unit plain_unit = c.unwrap_or-unit.ensures ∙ ap (unwrap_or s.unit) c.plain_unit.ensures in
    let start : c.unwrap_or-clock.result ≡ unwrap_or s.clock plain_clock_start = c.unwrap_or-clock.ensures ∙ ap (unwrap_or s.clock) c.plain.ensures in
    let same : c.in_ok-image.field-0 ≡ finished s words =
    c.in_ok-image.ensures ∙ (λ i. record { words = words; byte_time = time i; unit = second i; clock_start = start i }) in
    both_pass c.args.text.now s words c.in_ok-words.ensures.lines linked_all ∙ ap (λ (b : Boot). Ok b) (sym same)
