use Rattle.std.proofs.Common.{◌≡◌, ◌≤◌, ◌*◌, ◌+◌, ◌-◌, length, Some, None, refl, sym, ap, subst, ◌∙◌, arith}
use Rattle.std.proofs.lemmas.Bool.{leb-true, le-leb}
use Rattle.r3k_image.specs.Boot.{IsBlank}
use Rattle.r3k_image.specs.Segments.{view, views, end_of, last_at}
use Rattle.r3k_image.proofs.Placing.{is_last, Stand-end}
use Rattle.r3k_image.proofs.Fits.{blank_none, blank_by_end, end_by_blank}
use Rattle.r3k_image.proofs.image.Image.is_blank.Goals as goal

pub overflow_mul-last : goal.overflow_mul-last
overflow_mul-last c =
    let segments = views c.self.inside.segments.items in
    let s = c.in-Some.segment.now in
    let last : last_at (c.args.end - 1) segments ≡ Some (view s) = sym (c.in-Some.ensures ∙ ap (λ s. last_at (c.args.end - 1) (views s)) c.deref.ensures.value) in
    let small = Stand-end 0 s.address (length s.words.items) (is_last 0 (c.args.end - 1) segments (view s) c.self.invariant.stand last).good.place in
    omega (arith, small, s.words.ok.0)

pub overflow_add-last : goal.overflow_add-last
overflow_add-last c =
    let segments = views c.self.inside.segments.items in
    let s = c.in-Some.segment.now in
    let last : last_at (c.args.end - 1) segments ≡ Some (view s) = sym (c.in-Some.ensures ∙ ap (λ s. last_at (c.args.end - 1) (views s)) c.deref.ensures.value) in
    let small = Stand-end 0 s.address (length s.words.items) (is_last 0 (c.args.end - 1) segments (view s) c.self.invariant.stand last).good.place in
    omega (arith, small, s.words.ok.0)

pub returns-in-None : goal.returns-in-None
returns-in-None c =
    let segments = views c.self.inside.segments.items in
    let last : last_at (c.args.end - 1) segments ≡ None = sym (c.in-None.ensures ∙ ap (λ s. last_at (c.args.end - 1) (views s)) c.deref.ensures.value) in
    ((λ _. subst (IsBlank c.args.start c.args.end) c.self.view_is (blank_none segments _ c.args.start c.args.end c.self.invariant last)), (λ _. refl))

pub returns-in-Some : goal.returns-in-Some
returns-in-Some c =
    let segments = views c.self.inside.segments.items in
    let s = c.in-Some.segment.now in
    let last : last_at (c.args.end - 1) segments ≡ Some (view s) = sym (c.in-Some.ensures ∙ ap (λ s. last_at (c.args.end - 1) (views s)) c.deref.ensures.value) in
    let same : c.from.result + 4 * c.len.result ≡ end_of s.address (length s.words.items) = omega (arith, s.words.ok.0) in (
      (λ holds.
          let before : end_of s.address (length s.words.items) ≤ c.args.start = let h = leb-true _ _ holds in omega (arith, h, same, c.from-in-Some.ensures) in
          subst (IsBlank c.args.start c.args.end) c.self.view_is (blank_by_end segments _ c.args.start c.args.end (view s) c.self.invariant last before)),
      (λ blank.
          let before = end_by_blank segments _ c.args.start c.args.end (view s) c.self.invariant last c.requires.some c.requires.aligned
          (subst (IsBlank c.args.start c.args.end) (sym c.self.view_is) blank) in
          le-leb _ _ (omega (arith, before, same, c.from-in-Some.ensures))),
    )
