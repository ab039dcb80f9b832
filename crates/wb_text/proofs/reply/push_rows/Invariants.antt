use Rattle.std.proofs.Common.{◌≡◌, ◌+◌, ◌*◌, ◌≤◌, ◌++◌}
use Rattle.arrayvec.specs.ArrayVec.{array_vec_len}
use Rattle.wb_text.specs.Reply.{rows_text}
use Rattle.wb_text.proofs.reply.push_rows.Given as goal

abbrev pub invariant-loop-row : goal.invariant-loop-row
invariant-loop-row l = record {
  items : l.text.items ≡ l.initial.text.items ++ rows_text l.registers l.row;
  room : array_vec_len l.text ≤ array_vec_len l.initial.text + 70 * l.row;
}
