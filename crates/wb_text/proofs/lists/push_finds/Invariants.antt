use Rattle.std.proofs.Common.{◌≡◌, ◌+◌, ◌*◌, ◌≤◌, ◌++◌, drop}
use Rattle.arrayvec.specs.ArrayVec.{array_vec_len}
use Rattle.wb_text.specs.Text.{numbered}
use Rattle.wb_text.specs.Lists.{finds_text, sender_text}
use Rattle.wb_text.proofs.lists.push_finds.Given as goal

abbrev pub invariant-loop-step : goal.invariant-loop-step
invariant-loop-step l = record {
  items : l.text.items ++ numbered sender_text l.place (drop l.step-index l.steps) ≡ l.fn.text.items ++ finds_text l.first l.steps;
  room : array_vec_len l.text ≤ array_vec_len l.fn.text + 31 + 42 * l.step-index;
}
