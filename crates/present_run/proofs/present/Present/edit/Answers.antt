use Rattle.std.proofs.Common.{List, sym, ap, subst}
use Rattle.input_log.specs.Event.{LogEvent}
use Rattle.input_log.specs.Edits.{AreSameOutside, edited, times_of}
use Rattle.present_run.specs.Runs.{AreRecentStates, BelongTo}
use Rattle.present_run.specs.RecentStates.{positions_of}
use Rattle.present_run.specs.Shown.{view_of}
use Rattle.present_run.proofs.Edited.{log_edited}
use Rattle.present_run.proofs.Held.{none}
use Rattle.present_run.proofs.present.Present.edit.Goals as goal

pub invariant_of-self-2 : goal.invariant_of-self-2
invariant_of-self-2 g c =
    let log = c.args.self.now.inputs.log in
    let changed : AreSameOutside (times_of c.args.edit log).0 (times_of c.args.edit log).1 log c.edit.new.self =
    c.log_laws.ensures.outside c.args.edit log c.edit.new.self (c.in_ok-place.ensures {u = tt}).log in record {
      fits = c.args.self.now.fits;
      of = record {
        machine = c.forget.ensures.of c.args.self.now.inputs.image c.edit.new.self;
        records = c.forget-2.ensures.of c.args.self.now.inputs.image log c.edit.new.self c.args.self.now.of.records (rw c.times_of-from.ensures changed);
      };
      are_recent = λ e there. absurd (none _ e c.clear.ensures there);
    }

pub returns-clause-log : goal.returns-clause-log
returns-clause-log g c =
    log_edited (edited c.args.edit) (view_of c.args.self.now) c.edit.new.self _ _ _ _ (c.in_ok-place.ensures {u = tt}).log c.forget-2.ensures.rows c.forget-2.ensures.pasts c.forget.ensures.steps
    (ap positions_of c.clear.ensures)

-- a refused edit leaves the log
pub invariant_of-self : goal.invariant_of-self
invariant_of-self g c =
    let now = c.args.self.now in
    let same = (c.in_err-place.ensures {u = tt}).log.0 in record {
      fits = now.fits;
      of = subst (λ (log : List LogEvent). BelongTo {pages = g.row.PAGES} {span = g.row.SPAN} now.inputs.image log now.runs) (sym same) now.of;
      are_recent = subst (λ (log : List LogEvent). AreRecentStates g.row.PAGES g.row.SPAN (record { image = now.inputs.image; log = log }) now.runs.records.kept.valid now.recent_states) (sym same) now.are_recent;
    }
