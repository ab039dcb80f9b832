-- One row more.
use Rattle.std.proofs.Common.{arith, refl, append_assoc, append-nil}
use Rattle.wb_text.proofs.Rows.{rows_text-zero, rows_text-more}
use Rattle.wb_text.proofs.reply.push_rows.Goals as goal

pub loop-row-init : goal.loop-row-init
loop-row-init c = record {
  items = rw (rows_text-zero, append-nil) refl;
  room = omega arith;
}

pub loop-row-preserved : goal.loop-row-preserved
loop-row-preserved c = record {
  items = rw (c.push_row.ensures.items, c.loop-row.invariant.items, rows_text-more c.args.registers.now c.loop-row.row) (simp append_assoc);
  room = omega arith;
}
