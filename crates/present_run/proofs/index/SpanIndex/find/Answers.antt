use Rattle.std.proofs.Common.{◌≡◌, inl, inr, ℕ, ◌+◌, ◌<◌, ◌≤◌, List, suc, arith, length, ap, subst}
use Rattle.std.proofs.lemmas.Bool.{cases_lt}
use Rattle.span_fact.specs.Span.{Span}
use Rattle.console_index.specs.Counts.{IsPlace, total}
use Rattle.present_run.specs.Index.{Agrees, Index, IsSender, bytes_at, sent_below}
use Rattle.present_run.proofs.Totals.{totals, total_most, total_rise}
use Rattle.present_run.proofs.index.SpanIndex.find.Goals as goal

below_next : (pages span : ℕ) (spans : List (List Span)) (line i : ℕ)
    → sent_below pages span spans line (i + 1) ≡ sent_below pages span spans line i + length (bytes_at pages span spans line i)
unfolding sent_below
below_next pages span spans line i = ap (sent_below pages span spans line) (let e : i + 1 ≡ suc i = omega arith in e)

-- what is found in the whole index is one of the first records, if these sent enough
among : (pages span : ℕ) (index : Index) (spans : List (List Span)) (line place count found rest : ℕ) → line ≤ 3 → Agrees pages span index spans
    → place < total index.consoles line count → IsPlace index.consoles line place found rest → IsSender pages span spans line place count found
among pages span index spans line place count found rest known agrees sent is =
    elim (cases_lt found count) [
      | inl below ↦
          let front = totals pages span index spans line found known (λ i _. agrees i) in
          let here = (agrees found).sent line known in record {
            within = omega (arith, below);
            from = omega (arith, is.0, front);
            to = λ _. omega (arith, is.0, is.1, front, here, below_next pages span spans line found);
          }
      | inr past ↦
          let rises = total_rise index.consoles line count found past in
          absurd (let e : ⊥ = omega (arith, rises, sent, is.0) in e)
    ]

-- all of the first records lie before the place
pub returns-then-count-place : goal.returns-then-count-place
returns-then-count-place c = λ pages span spans agrees. record {
  within = omega arith;
  from = omega (arith, c.count.ensures pages span spans agrees, c.if-count-place.true);
  to = λ below. absurd (let e : ⊥ = omega (arith, below) in e);
}

pub returns-in-Some : goal.returns-in-Some
returns-in-Some c = λ pages span spans agrees.
    let index : Index = c.args.self.now in
    let line = c.args.line in
    let is = totals pages span index spans line c.args.count (omega arith) (λ i _. agrees i) in
    among pages span index spans line c.args.place c.args.count c.in-Some.index c.in-Some.field-0-1 (omega arith) agrees
    (omega (arith, c.if-count-place.false, c.count.ensures pages span spans agrees, is))
    (subst (λ (x : Index). IsPlace x.consoles line c.args.place c.in-Some.index c.in-Some.field-0-1) c.self.view_is (c.in-Some.ensures {u = tt}))

pub returns-in-None : goal.returns-in-None
returns-in-None c = λ pages span spans agrees.
    let index : Index = c.args.self.now in
    let line = c.args.line in
    let is = totals pages span index spans line c.args.count (omega arith) (λ i _. agrees i) in
    let all = subst (λ (x : Index). total x.consoles line (length x.consoles) ≤ c.args.place) c.self.view_is (c.in-None.ensures {u = tt}) in record {
      within = omega arith;
      from = omega (arith, all, is, total_most index.consoles line c.args.count);
      to = λ below. absurd (let e : ⊥ = omega (arith, below) in e);
    }
