-- The bit of the place leaves the old entry's set and comes into the new one's.
use Rattle.tlb64.proofs.Keeping.{none_kept}
use Rattle.tlb64.proofs.Written.{written_are}
use Rattle.tlb64.proofs.tlb.Tlb.write.Goals as goal

pub invariant_of-self : goal.invariant_of-self
invariant_of-self c =
    let old = c.set_of.ensures in
    let new = c.set_of-2.ensures in (
      written_are c.self.inside.entries c.self.inside.sets c.args.index c.args.entry
          c.set_of.result c.set_of-2.result c.self.invariant.0 c.requires
          old.within new.within old.value new.value,
      none_kept _,
    )
