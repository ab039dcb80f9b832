use Rattle.std.proofs.Common.{◌≡◌, ◌+◌, ◌*◌, ◌≤◌, ◌++◌}
use Rattle.arrayvec.specs.ArrayVec.{array_vec_len}
use Rattle.wb_text.specs.Reply.{words_text}
use Rattle.wb_text.proofs.reply.push_words.Given as goal

abbrev pub invariant-loop-place : goal.invariant-loop-place
invariant-loop-place l = record {
  items : l.text.items ≡ l.initial.text.items ++ words_text l.instructions l.words.address l.words.words.items l.place;
  room : array_vec_len l.text ≤ array_vec_len l.initial.text + 63 * l.place;
}
