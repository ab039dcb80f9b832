use Rattle.std.proofs.Common.{◌≡◌, ◌+◌, ◌*◌, ◌≤◌, ◌++◌, drop}
use Rattle.arrayvec.specs.ArrayVec.{array_vec_len}
use Rattle.wb_text.specs.Text.{numbered}
use Rattle.wb_text.specs.Devices.{line_text}
use Rattle.wb_text.proofs.devices.push_lines.Given as goal

abbrev pub invariant-loop-line : goal.invariant-loop-line
invariant-loop-line l = record {
  items : l.text.items ++ numbered line_text l.number (drop l.line-index l.lines) ≡ l.fn.text.items ++ numbered line_text 0 l.lines;
  room : array_vec_len l.text ≤ array_vec_len l.fn.text + 100 * l.line-index;
}
