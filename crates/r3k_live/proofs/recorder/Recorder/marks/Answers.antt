use Rattle.std.proofs.Common.{ℕ, ◌++◌, List, slice_index, sym, ap, subst, ◌∙◌}
use Rattle.std.specs.List.Sorted.{IsStrictlyIncreasing}
use Rattle.r3k_pages.proofs.Ascending.{if_ok_too}
use Rattle.r3k_live.specs.Marks.{registers_below}
use Rattle.r3k_live.specs.Record.{AreDestinations}
use Rattle.r3k_live.specs.Recording.{Recording}
use Rattle.r3k_live.proofs.Marking.{marks_ascend}
use Rattle.r3k_live.proofs.recorder.Recorder.marks.Goals as goal

pub returns-clause-ascending : goal.returns-clause-ascending
returns-clause-ascending g c = λ steps recorded.
    if_ok_too _ c.from_slice.result c.from_slice.ensures.items
    (λ marks copied.
    let are : AreDestinations steps c.self.inside.destinations = λ number within. ap (λ (r : Recording). slice_index r.destinations number) c.self.view_is ∙ recorded.destinations number within in
    let is = copied ∙ (c.deref.ensures.value
    ∙ (c.in_ok-add_marks.ensures {u = tt} steps are ∙ ap (λ (xs : List ℕ). xs ++ registers_below steps 34) ((c.in_ok-marks.ensures {u = tt}).pages steps recorded))) in
    subst IsStrictlyIncreasing (sym is) (marks_ascend g.row.PAGES steps c.self.invariant.few))
