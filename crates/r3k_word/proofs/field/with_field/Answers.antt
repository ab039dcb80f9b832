use Rattle.std.proofs.Common.{ℕ, subst, sym, Fits, w32}
use Rattle.r3k_word.proofs.Fields.{replaced_by_code, with_field_fits}
use Rattle.r3k_word.proofs.field.with_field.Goals as goal

pub overflow_add-result : goal.overflow_add-result
overflow_add-result g c =
    let value = replaced_by_code g.row.HI g.row.LO c.args.word c.args.value c.field.result c.requires.ordered c.requires.within c.field.ensures.value c.requires.fits in
    let below = with_field_fits g.row.HI g.row.LO c.args.word c.args.value c.requires.ordered c.requires.within c.ranges.word.fits c.requires.fits in
    subst (λ (n : ℕ). Fits w32 n) (sym value) (record { fits = below })

pub returns : goal.returns
returns g c = replaced_by_code g.row.HI g.row.LO c.args.word c.args.value c.field.result c.requires.ordered c.requires.within c.field.ensures.value c.requires.fits
