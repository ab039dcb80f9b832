use Rattle.std.proofs.Common.{◌≡◌, ℕ, ◌<◌, List, [], length, refl, sym, ap, subst, ◌∙◌, arith}
use Rattle.std.proofs.lemmas.Bool.{eqb-true, eqb-false}
use Rattle.wb_io.specs.Calls.{TakesAll, TakesFront}
use Rattle.wb_io.proofs.CallLemmas.{Writes-nil}
use Rattle.workbench.specs.Runs.{WritesText}
use Rattle.workbench.specs.Script.{lines_of}
use Rattle.workbench.proofs.Scripts.{no_text}
use Rattle.workbench.proofs.Takes.{ends_as, ends_stopped}
use Rattle.wb_session.specs.Session.{triple_of}
use Rattle.workbench.proofs.script.end_script.Goals as goal

pub returns-then-is_empty : goal.returns-then-is_empty
returns-then-is_empty g c =
    let none : length c.bytes-bytes.result.now ≡ 0 = eqb-true (length c.bytes-bytes.result.now) 0 (sym c.is_empty.ensures ∙ c.if-is_empty.true) in (
      [],
      Writes-nil (g.W.Sink.writes c.args.writer.now) (g.W.Sink.written c.args.writer.now),
      ([], no_text g.row.PAGES (triple_of c.args.session.now) c.args.line.now (ap length (sym c.bytes-bytes.ensures.kept) ∙ none), record { each = tt; all = refl }),
    )

pub returns-in-Ok : goal.returns-in-Ok
returns-in-Ok g c =
    let h = c.in-Ok.ensures in
    let bytes = c.bytes-bytes.result.now in
    let not_none : length bytes ≡ 0 → ⊥ = eqb-false (length bytes) 0 (sym c.is_empty.ensures ∙ c.if-is_empty.false) in
    let some : 0 < length bytes = omega arith in (
      h.0,
      h.1,
      subst (λ (z : List ℕ). WritesText TakesAll g.row.PAGES (triple_of c.args.session.now) (lines_of z) h.0) c.bytes-bytes.ensures.kept
          (ends_as g.row.PAGES (triple_of c.args.session.now) (triple_of c.answer_line.new.session) bytes h.0 c.in-Ok.field-0 c.bytes-bytes.ensures.no_feed some h.2),
    )

pub returns-in-Err : goal.returns-in-Err
returns-in-Err g c =
    let h = c.in-Err.ensures in
    let bytes = c.bytes-bytes.result.now in
    let not_none : length bytes ≡ 0 → ⊥ = eqb-false (length bytes) 0 (sym c.is_empty.ensures ∙ c.if-is_empty.false) in
    let some : 0 < length bytes = omega arith in (
      h.0,
      h.1,
      (
        h.2.0,
        subst (λ (z : List ℕ). WritesText TakesFront g.row.PAGES (triple_of c.args.session.now) (lines_of z) h.0) c.bytes-bytes.ensures.kept
            (ends_stopped g.row.PAGES (triple_of c.args.session.now) bytes h.0 c.bytes-bytes.ensures.no_feed some h.2.1),
      ),
    )
