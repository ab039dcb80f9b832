-- One word more.
use Rattle.std.proofs.Common.{arith, refl, append_assoc, append-nil}
use Rattle.wb_text.proofs.Rows.{words_text-zero, words_text-more}
use Rattle.wb_text.proofs.reply.push_words.Goals as goal

pub loop-place-init : goal.loop-place-init
loop-place-init c = record {
  items = rw (words_text-zero, append-nil) refl;
  room = omega arith;
}

pub loop-place-preserved : goal.loop-place-preserved
loop-place-preserved c = record {
  items = rw (c.push_memory.ensures.items, c.loop-place.invariant.items, words_text-more c.args.instructions c.args.words.now.address c.args.words.now.words.items c.loop-place.place, c.deref-word-items.ensures.0) (simp append_assoc);
  room = omega arith;
}
