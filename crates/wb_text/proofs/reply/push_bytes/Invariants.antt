use Rattle.std.proofs.Common.{◌≡◌, ◌+◌, ◌*◌, ◌≤◌, ◌++◌, take}
use Rattle.std.specs.Prelude.{flat_map}
use Rattle.arrayvec.specs.ArrayVec.{array_vec_len}
use Rattle.wb_text.specs.Text.{byte_text}
use Rattle.wb_text.proofs.reply.push_bytes.Given as goal

abbrev pub invariant-loop-byte : goal.invariant-loop-byte
invariant-loop-byte l = record {
  items : l.text.items ≡ l.initial.text.items ++ flat_map byte_text (take l.byte-index l.bytes);
  room : array_vec_len l.text ≤ array_vec_len l.initial.text + 2 * l.byte-index;
}
