use Rattle.std.proofs.Common.{sym, rules}
use Rattle.tlb64.proofs.Keeping.{one_more}
use Rattle.tlb64.proofs.tlb.Tlb.translate.Goals as goal

pub invariant_of-self : goal.invariant_of-self
invariant_of-self c =
    let entries = c.self.inside.entries in
    let found = (rw (← c.self.view_is, c.field.ensures.value) at c.in_ok-found.ensures.found) in
    rw c.tag-tag.ensures (
      c.self.invariant.0,
      one_more entries c.self.inside.kept c.slot.result c.args.address c.args.hi c.in_ok-found.found c.self.invariant.1 (sym found)
          (search rules),
    )
