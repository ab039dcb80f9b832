use Rattle.std.proofs.Common.{◌≡◌, ◌≤◌, ◌*◌, ◌+◌, length, Some, None, refl, sym, ap, subst, ◌∙◌, arith}
use Rattle.std.proofs.lemmas.Bool.{leb-true, le-leb}
use Rattle.r3k_image.specs.Boot.{FitsRam}
use Rattle.r3k_image.specs.Segments.{view, views, end_of, last_at}
use Rattle.r3k_image.proofs.Placing.{is_last, Stand-end}
use Rattle.r3k_image.proofs.Fits.{before_rom, fits_none, fits_by_end, end_by_fits}
use Rattle.r3k_image.proofs.image.Image.fits.Goals as goal

pub overflow_mul-end : goal.overflow_mul-end
overflow_mul-end c =
    let segments = views c.self.inside.segments.items in
    let s = c.in-Some.segment.now in
    let last : last_at before_rom segments ≡ Some (view s) = sym (c.in-Some.ensures ∙ ap (λ s. last_at before_rom (views s)) c.deref.ensures.value) in
    let small = Stand-end 0 s.address (length s.words.items) (is_last 0 before_rom segments (view s) c.self.invariant.stand last).good.place in
    omega (arith, small, s.words.ok.0)

pub overflow_add-end : goal.overflow_add-end
overflow_add-end c =
    let segments = views c.self.inside.segments.items in
    let s = c.in-Some.segment.now in
    let last : last_at before_rom segments ≡ Some (view s) = sym (c.in-Some.ensures ∙ ap (λ s. last_at before_rom (views s)) c.deref.ensures.value) in
    let small = Stand-end 0 s.address (length s.words.items) (is_last 0 before_rom segments (view s) c.self.invariant.stand last).good.place in
    omega (arith, small, s.words.ok.0)

pub returns-in-None : goal.returns-in-None
returns-in-None c =
    let segments = views c.self.inside.segments.items in
    let last : last_at before_rom segments ≡ None = sym (c.in-None.ensures ∙ ap (λ s. last_at before_rom (views s)) c.deref.ensures.value) in
    ((λ _. subst (FitsRam c.args.ram_pages) c.self.view_is (fits_none segments _ c.args.ram_pages c.self.invariant last)), (λ _. refl))

pub returns-in-Some : goal.returns-in-Some
returns-in-Some c =
    let segments = views c.self.inside.segments.items in
    let s = c.in-Some.segment.now in
    let pages = c.args.ram_pages in
    let last : last_at before_rom segments ≡ Some (view s) = sym (c.in-Some.ensures ∙ ap (λ s. last_at before_rom (views s)) c.deref.ensures.value) in
    let same : c.from.result + 4 * c.len.result ≡ end_of s.address (length s.words.items) = omega (arith, s.words.ok.0) in
    let room : 4 * c.from-in-Some.result * c.from-in-Some-2.result ≡ pages * 4096 = rw (c.from-in-Some.ensures, c.from-in-Some-2.ensures) (omega arith) in (
      (λ holds.
          let small : end_of s.address (length s.words.items) ≤ pages * 4096 = let h = leb-true _ _ holds in omega (arith, h, same, room) in
          subst (FitsRam pages) c.self.view_is (fits_by_end segments _ pages (view s) c.self.invariant last small)),
      (λ fits.
          let small = end_by_fits segments _ pages (view s) c.self.invariant last (subst (FitsRam pages) (sym c.self.view_is) fits) in
          le-leb _ _ (omega (arith, small, same, room))),
    )
