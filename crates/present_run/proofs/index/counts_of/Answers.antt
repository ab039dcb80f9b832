use Rattle.std.proofs.Common.{◌≡◌, ℕ, ◌≤◌, List, length, length-set, take, slice_index, sym, ap, ◌∙◌, arith}
use Rattle.std.proofs.lemmas.Grind.{get_or_default_zero}
use Rattle.std.proofs.lemmas.List.{length-take-le, take_all}
use Rattle.r3k_live.specs.declared.recorder.SentAt.{SentAt}
use Rattle.present_run.specs.Sent.{bytes_on}
use Rattle.present_run.proofs.Counting.{counted_one, few_on}
use Rattle.present_run.proofs.Sending.{item_taken}
use Rattle.present_run.proofs.index.counts_of.Goals as goal

pub overflow_add-counts : goal.overflow_add-counts
overflow_add-counts c =
    let i = c.loop-one.one-index in
    let few = few_on c.index.result (take i c.args.sent.now) in
    let long = length-take-le i c.args.sent.now (omega arith) in
    let so_far = c.loop-one.invariant.each c.index.result (omega arith) in
    record { fits = omega (arith, few, long, so_far) }

pub loop-one-preserved : goal.loop-one-preserved
loop-one-preserved c =
    let i = c.loop-one.one-index in
    let counts = c.loop-one.counts in
    let one = c.one-item.result in
    let taken = item_taken c.args.sent.now i one c.one-item.is c.loop-one-test.true in
    rw c.index.ensures.value record {
      each = λ line known.
          counted_one counts (take i c.args.sent.now) one line (omega (arith, c.loop-one.invariant.four, c.index.ensures)) (c.loop-one.invariant.each line known)
          ∙ ap (λ (front : List SentAt). length (bytes_on line front)) (sym taken);
      four = length-set counts one.line _ ∙ c.loop-one.invariant.four;
    }

-- all are counted
all : (sent : List SentAt) (counts : List ℕ) (n line : ℕ) → length sent ≤ n → slice_index counts line ≡ length (bytes_on line (take n sent))
    → slice_index counts line ≡ length (bytes_on line sent)
all sent counts n line past so_far = so_far ∙ ap (λ (front : List SentAt). length (bytes_on line front)) (take_all n sent past)

pub returns-clause-each : goal.returns-clause-each
returns-clause-each c = λ line known. all c.args.sent.now c.loop-one.counts c.loop-one.one-index line c.loop-one-test.false (c.loop-one.invariant.each line known)

pub returns-clause-few : goal.returns-clause-few
returns-clause-few c =
    λ line d within.
    let known : line ≤ 3 = omega (arith, within, c.loop-one.invariant.four) in
    let is = all c.args.sent.now c.loop-one.counts c.loop-one.one-index line c.loop-one-test.false (c.loop-one.invariant.each line known) in
    omega (arith, is, few_on line c.args.sent.now, get_or_default_zero c.loop-one.counts line d within)
