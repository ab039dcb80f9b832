use Rattle.std.proofs.Common.{subst}
use Rattle.r3k_live.specs.Going.{IsFreeFor}
use Rattle.r3k_live.proofs.Gone.{no_more}
use Rattle.r3k_live.proofs.stretch.stretch.Goals as goal

pub returns-clause-goes : goal.returns-clause-goes
returns-clause-goes g c = λ log from start made now left gone.
    c.run_in.ensures.goes log from start made (subst (IsFreeFor c.in-Some.ready.steps log) now (c.in-Some.ensures.free log left))
    (rw (c.get_ready.ensures.core, c.get_ready.ensures.words) gone)

pub returns-in_default-clause-goes : goal.returns-in_default-clause-goes
returns-in_default-clause-goes g c = λ log from start made now left gone.
    rw (c.get_ready.ensures.core, c.get_ready.ensures.words) (no_more g.row.PAGES log from start c.args.stop made _ c.args.recorder.now gone)
