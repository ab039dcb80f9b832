use Rattle.std.proofs.Common.{refl, arith}
use Rattle.r3k_live.proofs.recorder.Recorder.note_ready.Goals as goal

pub add_ready-requires : goal.add_ready-requires
add_ready-requires g c = (
  omega arith,
  (
    c.requires.code.1.within,
    record {
      within = c.requires.page;
      fetched = c.goes_over_bus.ensures.fetched c.if-goes_over_bus.true refl g.row.PAGES c.requires.code.0 c.requires.code.1;
      touched = c.requires.touched;
      stood = c.requires.stood;
    },
  ),
)
