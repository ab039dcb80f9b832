-- All bytes, or none.
use Rattle.std.proofs.Common.{arith, refl, rules}
use Rattle.std.proofs.lemmas.List.{take_all}
use Rattle.wb_text.proofs.Shown.{bytes_text-none, bytes_text-some}
use Rattle.wb_text.proofs.reply.push_bytes.Goals as goal

pub returns-then-is_empty-clause-items : goal.returns-then-is_empty-clause-items
returns-then-is_empty-clause-items c =
    rw (c.push_text.ensures.items, bytes_text-none c.args.bytes.now (search rules)) refl

pub returns-clause-items : goal.returns-clause-items
returns-clause-items c =
    rw (c.loop-byte.invariant.items, take_all c.loop-byte.byte-index c.args.bytes.now (omega arith), bytes_text-some c.args.bytes.now (search rules)) refl
