use Rattle.std.proofs.Common.{◌≡◌, ◌+◌, ◌*◌, ◌≤◌, ◌++◌, drop}
use Rattle.arrayvec.specs.ArrayVec.{array_vec_len}
use Rattle.wb_text.specs.Text.{numbered}
use Rattle.wb_text.specs.Trace.{step_text}
use Rattle.wb_text.proofs.trace.push_steps.Given as goal

abbrev pub invariant-loop-step : goal.invariant-loop-step
invariant-loop-step l = record {
  items : l.text.items ++ numbered step_text l.number (drop l.step-index l.steps) ≡ l.fn.text.items ++ numbered step_text l.first l.steps;
  room : array_vec_len l.text ≤ array_vec_len l.fn.text + 220 * l.step-index;
}
