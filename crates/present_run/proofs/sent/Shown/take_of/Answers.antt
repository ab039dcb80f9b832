use Rattle.std.proofs.Common.{ℕ, ◌++◌, List, take, sym, ap, subst, ◌∙◌, arith}
use Rattle.std.proofs.lemmas.List.{take_all}
use Rattle.r3k_live.specs.declared.recorder.SentAt.{SentAt}
use Rattle.present_run.specs.Console.{Shows, with_byte}
use Rattle.present_run.specs.Sent.{bytes_on}
use Rattle.present_run.proofs.Consoles.{bytes_more}
use Rattle.present_run.proofs.Sending.{item_taken}
use Rattle.present_run.proofs.sent.Shown.take_of.Goals as goal

pub loop-one-preserved : goal.loop-one-preserved
loop-one-preserved c =
    let line = c.args.line in
    let sent = c.args.sent.now in
    let i = c.loop-one.one-index in
    let one = c.one-item.result in
    let taken = item_taken sent i one c.one-item.is c.loop-one-test.true in record {
      shows = λ console was.
          let all = console ++ bytes_on line (take i sent) in
          subst (λ (bytes : List ℕ). Shows c.args.from c.args.count bytes c.take.new.self)
          (ap (with_byte all) c.byte_on.ensures
          ∙ (bytes_more line console (take i sent) one
          ∙ ap (λ (front : List SentAt). console ++ bytes_on line front) (sym taken)))
          (c.take.ensures.shows all (c.loop-one.invariant.shows console was));
      few = omega (arith, c.take.ensures.one_more, c.loop-one.invariant.few);
    }

pub returns-clause-shows : goal.returns-clause-shows
returns-clause-shows c =
    λ console was.
    subst (λ (front : List SentAt). Shows c.args.from c.args.count (console ++ bytes_on c.args.line front) c.loop-one.self)
    (take_all c.loop-one.one-index c.args.sent.now (omega (arith, c.loop-one-test.false))) (c.loop-one.invariant.shows console was)
