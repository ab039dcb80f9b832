use Rattle.r3k_word.proofs.Fields.{field_by_mask, field_fits}
use Rattle.std.proofs.Common.{◌<◌, ◌^◌, ◌+◌, ◌-◌, ℕ, subst, sym}
use Rattle.r3k_word.proofs.field.field.Goals as goal

pub returns-clause-value : goal.returns-clause-value
returns-clause-value g c = field_by_mask g.row.HI g.row.LO c.args.word c.requires.ordered c.requires.within

pub returns-clause-fits : goal.returns-clause-fits
returns-clause-fits g c =
    subst (λ (n : ℕ). n < 2 ^ (g.row.HI + 1 - g.row.LO)) (sym (field_by_mask g.row.HI g.row.LO c.args.word c.requires.ordered c.requires.within)) (field_fits g.row.HI g.row.LO c.args.word)
