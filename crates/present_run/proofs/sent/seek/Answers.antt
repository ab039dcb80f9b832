use Rattle.std.proofs.Common.{rules, ◌≡◌, ℕ, ◌+◌, ◌++◌, ◌∷◌, [], List, length, length-append, take, drop, slice_get, sym, ap, ◌∙◌, arith}
use Rattle.std.proofs.lemmas.List.{take-append-drop}
use Rattle.r3k_live.specs.declared.recorder.SentAt.{SentAt}
use Rattle.present_run.specs.Sent.{steps_on}
use Rattle.present_run.proofs.Seeks.{at_seam}
use Rattle.present_run.proofs.Sending.{item_taken, steps_more, steps_none, steps_split}
use Rattle.present_run.proofs.sent.seek.Goals as goal

pub loop-one-preserved-then-ne : goal.loop-one-preserved-then-ne
loop-one-preserved-then-ne c =
    let line = c.args.line in
    let sent = c.args.sent.now in
    let i = c.loop-one.one-index in
    let one = c.one-item.result in
    ap (λ (steps : List ℕ). length steps + c.loop-one.left)
    (ap (steps_on line) (item_taken sent i one c.one-item.is c.loop-one-test.true) ∙ steps_none line (take i sent) one (search rules))
    ∙ c.loop-one.invariant

pub loop-one-preserved : goal.loop-one-preserved
loop-one-preserved c =
    let line = c.args.line in
    let sent = c.args.sent.now in
    let i = c.loop-one.one-index in
    let one = c.one-item.result in
    let long : length (steps_on line (take (i + 1) sent)) ≡ length (steps_on line (take i sent)) + 1 =
    ap (λ (front : List SentAt). length (steps_on line front)) (item_taken sent i one c.one-item.is c.loop-one-test.true)
    ∙ (ap (λ (steps : List ℕ). length steps) (steps_more line (take i sent) one (search rules))
    ∙ length-append (steps_on line (take i sent)) (one.step ∷ [])) in
    omega (arith, long, c.loop-one.invariant, c.if-left-eq0.false)

pub returns-then-left-eq0 : goal.returns-then-left-eq0
returns-then-left-eq0 c =
    let line = c.args.line in
    let sent = c.args.sent.now in
    let i = c.loop-one.one-index in
    let one = c.one-item.result in
    let front = steps_on line (take i sent) in
    let whole : steps_on line sent ≡ (front ++ one.step ∷ []) ++ steps_on line (drop (i + 1) sent) =
    ap (steps_on line) (sym (take-append-drop (i + 1) sent))
    ∙ (steps_split line (take (i + 1) sent) (drop (i + 1) sent)
    ∙ ap (λ (steps : List ℕ). steps ++ steps_on line (drop (i + 1) sent))
    (ap (steps_on line) (item_taken sent i one c.one-item.is c.loop-one-test.true) ∙ steps_more line (take i sent) one (search rules))) in
    ap (λ (steps : List ℕ). slice_get steps c.args.place) whole
    ∙ (ap (slice_get ((front ++ one.step ∷ []) ++ steps_on line (drop (i + 1) sent))) (let e : c.args.place ≡ length front = omega (arith, c.loop-one.invariant, c.if-left-eq0.true) in e)
    ∙ at_seam front one.step (steps_on line (drop (i + 1) sent)))
