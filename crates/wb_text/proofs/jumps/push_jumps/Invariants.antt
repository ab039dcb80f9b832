use Rattle.std.proofs.Common.{◌≡◌, ◌+◌, ◌*◌, ◌≤◌, ◌++◌, take}
use Rattle.std.specs.Prelude.{flat_map}
use Rattle.arrayvec.specs.ArrayVec.{array_vec_len}
use Rattle.wb_text.specs.Jumps.{jump_text}
use Rattle.wb_text.specs.Text.{line}
use Rattle.wb_text.proofs.jumps.push_jumps.Given as goal

abbrev pub invariant-loop-jump : goal.invariant-loop-jump
invariant-loop-jump l = record {
  items : l.text.items ≡ l.initial.text.items ++ flat_map (λ j. line (jump_text j)) (take l.jump-index l.jumps);
  room : array_vec_len l.text ≤ array_vec_len l.initial.text + 100 * l.jump-index;
}
