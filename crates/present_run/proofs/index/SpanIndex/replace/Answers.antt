use Rattle.std.proofs.Common.{is_ok, sym, ap, ◌∙◌}
use Rattle.std.proofs.lemmas.Bool.{false≢true}
use Rattle.present_run.proofs.index.SpanIndex.replace.Goals as goal

-- room was reserved, so the counts are put
pub returns-in_err-replace-2 : goal.returns-in_err-replace-2
returns-in_err-replace-2 c =
    absurd (false≢true (sym (ap is_ok (c.in_err-replace-2.was {u = tt})) ∙ c.replace-2.ensures.free (c.in_ok-reserve.ensures {u = tt}).room))
