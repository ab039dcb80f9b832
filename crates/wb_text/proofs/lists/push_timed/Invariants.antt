use Rattle.std.proofs.Common.{◌≡◌, ◌+◌, ◌*◌, ◌≤◌, ◌++◌, take}
use Rattle.std.specs.Prelude.{flat_map}
use Rattle.arrayvec.specs.ArrayVec.{array_vec_len}
use Rattle.wb_text.specs.Lists.{timed_text}
use Rattle.wb_text.specs.Text.{line}
use Rattle.wb_text.proofs.lists.push_timed.Given as goal

abbrev pub invariant-loop-word : goal.invariant-loop-word
invariant-loop-word l = record {
  items : l.text.items ≡ l.initial.text.items ++ flat_map (λ t. line (timed_text t)) (take l.word-index l.words);
  room : array_vec_len l.text ≤ array_vec_len l.initial.text + 32 * l.word-index;
}
