use Rattle.std.proofs.Common.{◌≡◌, inl, inr, ℕ, ◌+◌, ◌-◌, ◌<◌, ◌≤◌, refl, sym, subst, ◌∙◌, arith}
use Rattle.std.proofs.lemmas.Bool.{cases_eq}
use Rattle.present_run.specs.Reuse.{Holding, Lacks, Serves, Turns, kept_at, stay}
use Rattle.present_run.specs.Runs.{held}
use Rattle.present_run.proofs.Counts.{Within, count_more, count_most, count_same, lacks_back, lacks_below, lacks_more, lacks_on, lacks_none, none_run, serves_same, turned_on, turned_to}
use Rattle.present_run.proofs.runs.Runs.join_before.Goals as goal

-- the rows so far, and the next one
turned : (pages span : ℕ) (old mid new : Holding) (i valid : ℕ) → mid.history ≡ old.history → mid.pasts ≡ old.pasts
    → Turns pages span mid valid (kept_at new valid) → (¬ (i ≡ valid) → kept_at new i ≡ kept_at mid i) → ((i : ℕ) → Turns pages span old i (kept_at mid i))
    → Turns pages span old i (kept_at new i)
turned pages span old mid new i valid history pasts here others so_far =
    elim (cases_eq i valid) [
      | inl is ↦ subst (λ (n : ℕ). Turns pages span old n (kept_at new n)) (sym is) (turned_on pages span old mid valid (kept_at new valid) history pasts (so_far valid) here)
      | inr other ↦ turned_to pages span old i (kept_at mid i) (kept_at new i) (others other) (so_far i)
    ]

pub loop-alloc-init : goal.loop-alloc-init
loop-alloc-init g c =
    let pages = g.row.PAGES in
    let span = g.row.SPAN in
    let old = held c.args.inputs.now.image c.args.inputs.now.log c.args.self.now in
    let serves : (i : ℕ) → i < c.args.self.now.records.kept.valid → Serves pages span old i = λ i below far. far 0 (c.requires.of.records.joined i below).near in record {
      of = c.requires.of;
      pasts = refl;
      joined = omega arith;
      later = λ i _. refl;
      grows = omega arith;
      turns = λ i. stay (kept_at old i) refl;
      count = λ lacking lacks.
          subst (λ (n : ℕ). Within span old.steps n old.steps) (sym (lacks_none pages span old c.args.self.now.records.kept.valid lacking serves lacks)) (none_run span old.steps);
      beyond = λ i _ below. serves i below;
    }

pub loop-alloc-preserved : goal.loop-alloc-preserved
loop-alloc-preserved g c =
    let pages = g.row.PAGES in
    let span = g.row.SPAN in
    let old = held c.args.inputs.now.image c.args.inputs.now.log c.args.self.now in
    let mid = held c.args.inputs.now.image c.args.inputs.now.log c.loop-alloc.self in
    let new = held c.args.inputs.now.image c.args.inputs.now.log c.extend.new.self in
    let so_far = c.loop-alloc.invariant in
    let valid = c.loop-alloc.self.records.kept.valid in
    let next = c.extend.new.self.records.kept.valid in
    let joined : valid < next = (c.in_ok-extend.ensures {u = tt}).joined in
    let after : (i : ℕ) → valid < i → i < next → Serves pages span old i = λ i past below.
    serves_same pages span new old i refl
    (sym (c.extend.ensures.others i (λ same. let e : ⊥ = omega (arith, past, same) in e) ∙ so_far.later i (omega (arith, past)))) (λ far. far 0 (c.extend.ensures.of.records.joined i below).near)
    in record {
      of = c.extend.ensures.of;
      pasts = c.extend.ensures.pasts ∙ so_far.pasts;
      joined = omega (arith, so_far.joined, joined);
      later = λ i past.
          c.extend.ensures.others i (λ same. let e : ⊥ = omega (arith, past, same, joined) in e)
          ∙ so_far.later i (omega (arith, past, joined));
      grows = omega (arith, so_far.grows, c.extend.ensures.least);
      turns = λ i. turned pages span old mid new i valid refl so_far.pasts c.extend.ensures.turns (c.extend.ensures.others i) so_far.turns;
      count = λ lacking lacks.
          lacks_more pages span old valid lacking
          (lacks_back pages span old (valid + 1) (next - (valid + 1)) lacking (λ i past below. after i (omega (arith, past)) (omega (arith, below, joined)))
          (subst (λ (n : ℕ). Lacks pages span old n lacking) (let e : next ≡ valid + 1 + (next - (valid + 1)) = omega (arith, joined) in e) lacks))
          (λ there rest.
          subst (λ (n : ℕ). Within span old.steps lacking n) (sym (c.extend.ensures.free (serves_same pages span old mid valid refl (so_far.later valid (omega arith)) there))) (so_far.count lacking rest))
          (λ absent before is rest.
          count_more span before lacking old.steps mid.steps new.steps is (so_far.count before rest)
          ((c.in_ok-extend.ensures {u = tt}).count (λ serves. absent (serves_same pages span mid old valid refl (sym (so_far.later valid (omega arith))) serves))));
      beyond = λ i past below. after i (omega (arith, past, c.loop-alloc-test.true)) below;
    }

pub returns-in_err-extend-clause-spends : goal.returns-in_err-extend-clause-spends
returns-in_err-extend-clause-spends g c =
    let pages = g.row.PAGES in
    let span = g.row.SPAN in
    let old = held c.args.inputs.now.image c.args.inputs.now.log c.args.self.now in
    let mid = held c.args.inputs.now.image c.args.inputs.now.log c.loop-alloc.self in
    let new = held c.args.inputs.now.image c.args.inputs.now.log c.extend.new.self in
    let so_far = c.loop-alloc.invariant in
    let valid = c.loop-alloc.self.records.kept.valid in
    let index = c.args.index in record {
      history = refl;
      pasts = c.extend.ensures.pasts ∙ so_far.pasts;
      grows = omega (arith, so_far.grows, c.extend.ensures.least);
      most = λ lacking lacks.
          lacks_below pages span old (valid + 1) (index - (valid + 1)) lacking
          (subst (λ (n : ℕ). Lacks pages span old n lacking) (let e : index ≡ valid + 1 + (index - (valid + 1)) = omega (arith, c.loop-alloc-test.true) in e) lacks)
          (λ fewer less here.
          lacks_more pages span old valid fewer here
          (λ there rest.
          count_same span fewer lacking old.steps mid.steps new.steps less (so_far.count fewer rest).1
          (let same : new.steps ≡ mid.steps = c.extend.ensures.free (serves_same pages span old mid valid refl (so_far.later valid (omega arith)) there) in omega (arith, same)))
          (λ absent before is rest.
          count_most span before lacking old.steps mid.steps new.steps (omega (arith, less, is)) (so_far.count before rest).1 c.extend.ensures.most));
      turns = λ i. turned pages span old mid new i valid refl so_far.pasts c.extend.ensures.turns (c.extend.ensures.others i) so_far.turns;
    }

-- the spans after those that were needed cost nothing
within : (pages span : ℕ) (old now : Holding) (index valid lacking : ℕ) → index ≤ valid → ((i : ℕ) → index ≤ i → i < valid → Serves pages span old i)
    → ((lacking : ℕ) → Lacks pages span old valid lacking → Within span old.steps lacking now.steps) → Lacks pages span old index lacking → Within span old.steps lacking now.steps
within pages span old now index valid lacking reached beyond count lacks =
    let all : index + (valid - index) ≡ valid = omega (arith, reached) in
    count lacking
    (subst (λ (n : ℕ). Lacks pages span old n lacking) all
    (lacks_on pages span old index (valid - index) lacking (λ i past below. beyond i past (omega (arith, below, all))) lacks))

pub returns-clause-spends : goal.returns-clause-spends
returns-clause-spends g c =
    let old = held c.args.inputs.now.image c.args.inputs.now.log c.args.self.now in
    let now = held c.args.inputs.now.image c.args.inputs.now.log c.loop-alloc.self in
    let so_far = c.loop-alloc.invariant in record {
      history = refl;
      pasts = so_far.pasts;
      grows = so_far.grows;
      most = λ lacking lacks.
          let cost = within g.row.PAGES g.row.SPAN old now c.args.index c.loop-alloc.self.records.kept.valid lacking
          (omega (arith, c.loop-alloc-test.false)) so_far.beyond so_far.count lacks in
          omega (arith, cost.1);
      turns = so_far.turns;
    }

pub returns-clause-reaches : goal.returns-clause-reaches
returns-clause-reaches g c =
    let old = held c.args.inputs.now.image c.args.inputs.now.log c.args.self.now in
    let now = held c.args.inputs.now.image c.args.inputs.now.log c.loop-alloc.self in
    let so_far = c.loop-alloc.invariant in record {
      least = λ lacking lacks.
          (within g.row.PAGES g.row.SPAN old now c.args.index c.loop-alloc.self.records.kept.valid lacking
          (omega (arith, c.loop-alloc-test.false)) so_far.beyond so_far.count lacks).0;
      there = λ i below. (so_far.of.records.joined i (omega (arith, below, c.loop-alloc-test.false))).near;
    }
