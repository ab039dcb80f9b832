use Rattle.std.proofs.Common.{◌≡◌, ◌+◌, ◌*◌, ◌≤◌, ◌++◌, take}
use Rattle.std.specs.Prelude.{flat_map}
use Rattle.arrayvec.specs.ArrayVec.{array_vec_len}
use Rattle.wb_text.specs.Text.{byte_text}
use Rattle.wb_text.proofs.devices.push_registers.Given as goal

abbrev pub invariant-loop-register : goal.invariant-loop-register
invariant-loop-register l = record {
  items : l.text.items ≡ l.initial.text.items ++ flat_map byte_text (take l.register-index l.registers);
  room : array_vec_len l.text ≤ array_vec_len l.initial.text + 2 * l.register-index;
}
