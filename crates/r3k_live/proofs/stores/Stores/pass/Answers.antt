use Rattle.std.proofs.Common.{ℕ, ◌<◌, All, slice_index, sym, subst, ◌∙◌}
use Rattle.r3k_live.specs.Stores.{Stores}
use Rattle.r3k_live.specs.Waiting.{IsPassedBy}
use Rattle.r3k_live.proofs.Holding.{had_step}
use Rattle.r3k_live.proofs.stores.Stores.pass.Goals as goal

pub invariant_of-self : goal.invariant_of-self
invariant_of-self g c =
    let inside = c.self.inside.last.items in
    let all = subst (λ (s : Stores). All (IsPassedBy c.args.steps c.args.passed s.last) c.args.held.now) (sym c.self.view_is) c.requires.held in
    let had = λ (place : ℕ) (some : 0 < slice_index c.come_later.new.last.items place).
    had_step c.args.steps c.args.passed place inside c.args.held.now all (subst (λ (n : ℕ). 0 < n) (c.come_later.ensures.last place) some) in record {
      few = c.self.invariant.few;
      long = c.come_later.ensures.long ∙ c.self.invariant.long;
      whole = c.self.invariant.whole;
      blocks_marked = λ place some. c.self.invariant.blocks_marked place (had place some);
      pages_marked = λ place some. c.self.invariant.pages_marked place (had place some);
      dirty_marked = c.self.invariant.dirty_marked;
    }
