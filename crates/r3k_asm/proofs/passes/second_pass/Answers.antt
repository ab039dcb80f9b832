-- One more reference, up to the end or a fault.
use Rattle.std.proofs.Common.{◌+◌, drop, sym, ap, subst, ◌∙◌}
use Rattle.r3k_asm.specs.Meaning.{linked, FailsOrLacks}
use Rattle.r3k_asm.proofs.Links.{link_more, link_fails, link_none}
use Rattle.r3k_asm.proofs.passes.second_pass.Goals as goal

pub returns-in-Err : goal.returns-in-Err
returns-in-Err c =
    let fails = link_fails c.args.labels.now c.loop-reference.words c.args.references.now c.loop-reference.reference-index c.reference-item.result c.in-Err.kind
    c.loop-reference-test.true c.reference-item.is (sym c.in-Err.ensures) in
    subst (λ fault. FailsOrLacks fault (linked c.args.labels.now c.args.words c.args.references.now)) (sym c.bad.ensures) (sym c.loop-reference.invariant ∙ fails)

pub loop-reference-preserved : goal.loop-reference-preserved
loop-reference-preserved c =
    let i = c.loop-reference.reference-index in
    ap (λ w. linked c.args.labels.now w (drop (i + 1) c.args.references.now)) c.in_ok-insert-in-Ok.ensures.words
    ∙ link_more c.args.labels.now c.loop-reference.words c.args.references.now i c.reference-item.result c.in-Ok.word c.loop-reference-test.true c.reference-item.is (sym c.in-Ok.ensures)
    ∙ c.loop-reference.invariant

pub returns : goal.returns
returns c = sym c.loop-reference.invariant ∙ link_none c.args.labels.now c.loop-reference.words c.args.references.now c.loop-reference.reference-index c.loop-reference-test.false
