use Rattle.std.proofs.Common.{slice_set, sym, ap, subst, ◌∙◌, arith}
use Rattle.r3k_image.specs.Boot.{Boot, FitsRam}
use Rattle.r3k_machine.specs.Reset.{reset}
use Rattle.r3k_machine.specs.State.{State}
use Rattle.present_run.specs.RecentStates.{positions_of}
use Rattle.present_run.specs.Runs.{AreRecentStates, BelongTo}
use Rattle.r3k_image.specs.Patch.{patching}
use Rattle.present_run.proofs.Edited.{image_edited}
use Rattle.present_run.specs.Shown.{view_of}
use Rattle.present_run.proofs.Held.{none}
use Rattle.present_run.proofs.Patches.{fits_after, its_address, patching_there, reset_patched, taken_by_most}
use Rattle.present_run.proofs.present.Present.patch.Goals as goal

pub invariant_of-self-2 : goal.invariant_of-self-2
invariant_of-self-2 g c =
    let pages = g.row.PAGES in
    let records = c.args.self.now.of.records in
    let address = c.args.address in
    let word = c.args.word in
    let image = c.args.self.now.inputs.image in
    let place = c.in-Some.place in
    let is = sym c.place_of.ensures ∙ c.in-Some.is in
    let same = taken_by_most pages address word place image c.patch.new.self c.args.self.now.of.records.sizes.most_pages is (c.in-Ok.ensures {u = tt}) in
    let anew = sym (reset_patched pages address word place image c.args.self.now.of.records.sizes.most_pages is) ∙ ap (λ (b : Boot). reset pages b) same in record {
      fits = fits_after pages address word place image c.patch.new.self is same c.args.self.now.fits;
      of = record {
        machine = c.forget.ensures.of c.patch.new.self c.args.self.now.inputs.log;
        records = c.restart.ensures.of image c.patch.new.self c.args.self.now.inputs.log records
            (c.in_ok-reset.ensures {u = tt} ∙ (ap (λ (s : State). let r : State = record { core = s.core; words = slice_set s.words place word } in r) records.start ∙ anew));
      };
      are_recent = λ e there. absurd (none _ e c.clear.ensures there);
    }

pub returns-clause-fits : goal.returns-clause-fits
returns-clause-fits g c =
    let pages = g.row.PAGES in
    let is = sym c.place_of.ensures ∙ c.in-Some.is in
    fits_after pages c.args.address c.args.word c.in-Some.place c.args.self.now.inputs.image c.patch.new.self is
    (taken_by_most pages c.args.address c.args.word c.in-Some.place c.args.self.now.inputs.image c.patch.new.self c.args.self.now.of.records.sizes.most_pages is (c.in-Ok.ensures {u = tt})) c.args.self.now.fits

pub reset_with-requires : goal.reset_with-requires
reset_with-requires g c = (omega arith, (omega arith, (its_address g.row.PAGES c.args.address c.in-Some.place (sym c.place_of.ensures ∙ c.in-Some.is)).0))

pub returns-clause-image : goal.returns-clause-image
returns-clause-image g c =
    let pages = g.row.PAGES in
    let is = sym c.place_of.ensures ∙ c.in-Some.is in
    let same = taken_by_most pages c.args.address c.args.word c.in-Some.place c.args.self.now.inputs.image c.patch.new.self c.args.self.now.of.records.sizes.most_pages is (c.in-Ok.ensures {u = tt}) in
    image_edited (patching pages c.args.address c.args.word) (view_of c.args.self.now) c.patch.new.self _ _ _ _ (patching_there pages c.args.address c.args.word c.in-Some.place c.args.self.now.inputs.image c.patch.new.self c.if-address-ne0.false is same)
    c.restart.ensures.rows c.restart.ensures.pasts c.forget.ensures.steps (ap positions_of c.clear.ensures)

-- a refused patch leaves the image
pub invariant_of-self-in_default-patch : goal.invariant_of-self-in_default-patch
invariant_of-self-in_default-patch g c =
    let now = c.args.self.now in
    let same = (c.in_default-patch.ensures {u = tt}).0 in record {
      fits = subst (λ (image : Boot). FitsRam g.row.PAGES image) (sym same) now.fits;
      of = subst (λ (image : Boot). BelongTo {pages = g.row.PAGES} {span = g.row.SPAN} image now.inputs.log now.runs) (sym same) now.of;
      are_recent = subst (λ (image : Boot). AreRecentStates g.row.PAGES g.row.SPAN (record { image = image; log = now.inputs.log }) now.runs.records.kept.valid now.recent_states) (sym same) now.are_recent;
    }
