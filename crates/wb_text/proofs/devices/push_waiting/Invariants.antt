use Rattle.std.proofs.Common.{◌≡◌, ◌+◌, ◌*◌, ◌≤◌, ◌++◌, take}
use Rattle.std.specs.Prelude.{flat_map}
use Rattle.arrayvec.specs.ArrayVec.{array_vec_len}
use Rattle.wb_text.specs.Devices.{waiting_text}
use Rattle.wb_text.proofs.devices.push_waiting.Given as goal

abbrev pub invariant-loop-word : goal.invariant-loop-word
invariant-loop-word l = record {
  items : l.text.items ≡ l.initial.text.items ++ flat_map waiting_text (take l.word-index l.words);
  room : array_vec_len l.text ≤ array_vec_len l.initial.text + 11 * l.word-index;
}
