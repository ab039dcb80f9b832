use Rattle.std.proofs.Common.{List, slice_index, sym, ap, subst, ◌∙◌}
use Rattle.r3k_pages.proofs.Ascending.{if_ok_too}
use Rattle.r3k_live.specs.Record.{AreWriters}
use Rattle.r3k_live.specs.Recording.{Recording}
use Rattle.r3k_live.specs.declared.recorder.Written.{Written}
use Rattle.r3k_live.proofs.Writers.{writers_are}
use Rattle.r3k_live.proofs.recorder.Recorder.writers.Goals as goal

pub returns : goal.returns
returns g c =
    λ steps so_far.
    if_ok_too _ c.written.result c.written.ensures
    (λ written is.
    subst (λ (written : List Written). AreWriters g.row.PAGES steps written) (sym is)
    (writers_are g.row.PAGES steps c.self.inside.stores.last
    (λ place within. ap (λ (r : Recording). slice_index r.last place) c.self.view_is ∙ so_far.last place within) so_far.ram))
