use Rattle.r3k_live.proofs.live.Live.follow.Goals as goal

pub invariant_of-self : goal.invariant_of-self
invariant_of-self g c =
    c.mark_stored.ensures c.self.inside.base.value.words c.self.inside.memory.words.items c.follow-traced.new.memory.words.items c.self.invariant c.follow-traced.ensures.within.words
