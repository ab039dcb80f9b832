use Rattle.std.proofs.Common.{◌++◌, refl}
use Rattle.wb_io.proofs.CallLemmas.{Writes-trans}
use Rattle.workbench.proofs.program.serve_words.Goals as goal

pub returns : goal.returns
returns g c =
    let h = c.outcome_of-outcome.ensures in
    let k = c.report.ensures in (
      h.0,
      h.1 ++ k.0,
      k.1,
      h.2,
      Writes-trans _ _ _ _ _ _ h.1 k.0 h.3 k.2,
      k.3,
      record { outcome = c.outcome_of-outcome.result; served = h.1; helped = k.0; writes_are = refl; serving = h.4; help = k.4; error = k.5; status_is = c.status.ensures },
      h.5,
      h.6,
      h.7,
    )
