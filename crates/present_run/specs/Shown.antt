-- What the present run of a history shows (own).
use Rattle.std.specs.Prelude.{◌≡◌, ℕ}
use Rattle.present_run.specs.RecentStates.{positions_of}
use Rattle.present_run.specs.Reuse.{Holding}
use Rattle.present_run.specs.TimelineView.{TimelineView, holding}
use Rattle.present_run.specs.declared.present.Present.{Present}

abbrev pub view_of : {pages span : ℕ} → Present pages span → TimelineView
view_of p = record {
  history = record { image = p.inputs.image; log = p.inputs.log };
  rows = p.runs.records.kept.rows;
  pasts = p.runs.records.kept.most;
  steps = p.runs.machine.live.steps;
  recent_states = positions_of p.recent_states;
}

abbrev pub holding_of : {pages span : ℕ} → Present pages span → Holding
holding_of p = holding (view_of p)

-- the history, the kept states, and how many pasts are kept are as they were
pub record Stays {pages span : ℕ} (old new : Present pages span) : Type 0 where
  pub history : (holding_of new).history ≡ (holding_of old).history
  pub recent_states : new.recent_states ≡ old.recent_states
  pub pasts : (holding_of new).pasts ≡ (holding_of old).pasts
