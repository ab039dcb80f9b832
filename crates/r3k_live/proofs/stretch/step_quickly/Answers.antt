use Rattle.std.proofs.Common.{◌+◌, subst, ap, arith}
use Rattle.r3k_machine.specs.Core.{Core}
use Rattle.r3k_machine.specs.Flow.{with_flow}
use Rattle.r3k_machine.specs.Quiet.{IsCodePage, IsQuietFor}
use Rattle.r3k_machine.specs.Step.{Outcome}
use Rattle.r3k_live.specs.Going.{MayGoOn}
use Rattle.r3k_live.specs.Living.{state_of}
use Rattle.r3k_live.specs.Recording.{TouchesStored}
use Rattle.r3k_live.proofs.Quick.{goes_once, if_four}
use Rattle.r3k_live.proofs.Touched.{instruction_touches}
use Rattle.r3k_live.proofs.stretch.step_quickly.Goals as goal

pub returns-clause-goes : goal.returns-clause-goes
returns-clause-goes g c =
    let pages = g.row.PAGES in
    let s = state_of (with_flow c.args.core.now c.args.flow.now) c.args.memory.now in
    let t = state_of (with_flow c.quick_step.new.core c.quick_step.new.flow) c.quick_step.new.memory in
    if_four c.quick_step.result c.quick_step.ensures.inside c.quick_step.ensures.quick c.quick_step.ensures.ran c.quick_step.ensures.within
    (λ quick inside is ran reports most address made r later within elsewhere may noted.
    let new = ap (λ (o : Outcome). o.state.core) ran in
    let quiet : IsQuietFor (made + 1) s.core = record {
      counts = omega (arith, may.quiet.counts, within);
      sampled = may.quiet.sampled;
      unwanted = may.quiet.unwanted;
    } in
    let after : MayGoOn pages most c.args.page t.core later = record {
      quiet = subst (λ (core : Core). IsQuietFor most core) new (c.quiet_laws.ensures.stays_quiet pages most s is may.quiet);
      code = subst (λ (core : Core). IsCodePage pages core c.args.page) new (c.quiet_laws.ensures.stays_code pages s c.args.page is may.code);
      again = noted.touched c.args.page.page may.again;
    } in
    goes_once pages most address c.args.page made s t quick.done r later within (c.requires.here inside).here elsewhere after
    noted.steps noted.code_pages (c.quiet_laws.ensures.at_once pages made s quiet is) ran noted.records reports.words is reports.stored)

pub returns-clause-pages : goal.returns-clause-pages
returns-clause-pages g c =
    if_four c.quick_step.result c.quick_step.ensures.inside c.quick_step.ensures.quick c.quick_step.ensures.ran c.quick_step.ensures.within
    (λ quick inside is ran reports. subst TouchesStored (ap (λ (o : Outcome). o.done) ran) (instruction_touches g.row.PAGES (state_of (with_flow c.args.core.now c.args.flow.now) c.args.memory.now)))
