use Rattle.std.proofs.Common.{◌≡◌, ◌-◌, ◌/◌, Some, None, sym, ap, ◌∙◌}
use Rattle.std.specs.FinMap.{get}
use Rattle.std.specs.List.{slice_get}
use Rattle.r3k_image.specs.Segments.{view, views, last_at}
use Rattle.r3k_image.proofs.Placing.{is_last}
use Rattle.r3k_image.proofs.Last.{looked_up}
use Rattle.r3k_image.proofs.Lookup.{get_none, get_misaligned, get_aligned}
use Rattle.r3k_image.proofs.image.Image.word.Goals as goal

pub returns-in_err-segment : goal.returns-in_err-segment
returns-in_err-segment c =
    let segments = views c.self.inside.segments.items in
    let last : last_at c.args.address segments ≡ None = sym (c.in_err-segment.ensures ∙ ap (λ s. last_at c.args.address (views s)) c.deref.ensures.value) in
    c.from_residual.ensures
    ∙ sym (get_none c.args.address segments c.self.invariant.stand last)
    ∙ ap (λ b. get b.words c.args.address) c.self.view_is

pub overflow_sub-offset : goal.overflow_sub-offset
overflow_sub-offset c =
    let segments = views c.self.inside.segments.items in
    let last : last_at c.args.address segments ≡ Some (view c.in_ok-segment.segment.now) = sym (c.in_ok-segment.ensures ∙ ap (λ s. last_at c.args.address (views s)) c.deref.ensures.value) in
    (is_last 0 c.args.address segments (view c.in_ok-segment.segment.now) c.self.invariant.stand last).below

pub returns-then-offset-ne0 : goal.returns-then-offset-ne0
returns-then-offset-ne0 c =
    let segments = views c.self.inside.segments.items in
    let last : last_at c.args.address segments ≡ Some (view c.in_ok-segment.segment.now) = sym (c.in_ok-segment.ensures ∙ ap (λ s. last_at c.args.address (views s)) c.deref.ensures.value) in
    sym (get_misaligned c.args.address segments (view c.in_ok-segment.segment.now) c.self.invariant.stand last c.if-offset-ne0.true)
    ∙ ap (λ b. get b.words c.args.address) c.self.view_is

pub returns : goal.returns
returns c =
    let segments = views c.self.inside.segments.items in
    let last : last_at c.args.address segments ≡ Some (view c.in_ok-segment.segment.now) = sym (c.in_ok-segment.ensures ∙ ap (λ s. last_at c.args.address (views s)) c.deref.ensures.value) in
    let offset = (c.args.address - c.in_ok-segment.segment.now.address) / 4 in
    c.copied.ensures
    ∙ looked_up c.get.result c.deref-2.result.now offset c.get.ensures.lookup.3
    ∙ ap (λ words. slice_get words offset) c.deref-2.ensures.value
    ∙ sym (get_aligned c.args.address segments (view c.in_ok-segment.segment.now) c.self.invariant.stand last c.if-offset-ne0.false)
    ∙ ap (λ b. get b.words c.args.address) c.self.view_is
