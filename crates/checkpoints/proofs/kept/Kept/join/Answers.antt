use Rattle.std.proofs.Common.{◌<◌, IsSome, inl, inr, length, sym, subst, arith}
use Rattle.std.proofs.lemmas.Bool.{cases_eq}
use Rattle.checkpoints.specs.Kept.{Kept, first_at}
use Rattle.checkpoints.proofs.Rows.{first_there}
use Rattle.checkpoints.proofs.kept.Kept.join.Goals as goal

pub invariant_of-self : goal.invariant_of-self
invariant_of-self g c =
    let inside = c.self.inside in
    let rows = c.self.invariant.0 in
    let there = first_there inside.rows.items inside.valid (subst (λ (k : Kept). IsSome (first_at k.rows k.valid)) (sym c.self.view_is) c.requires.kept) in (
      record {
        some = rows.some;
        numbers = rows.numbers;
        joined = λ i below. elim (cases_eq i inside.valid) [
          | inl is ↦ subst (λ n. 0 < length (Rattle.checkpoints.specs.Kept.row_at (Rattle.checkpoints.specs.Rows.records_of inside.rows.items) n)) (sym is) there
          | inr other ↦ rows.joined i (omega (arith, below, other))
        ];
        few = rows.few;
        fresh = rows.fresh;
        follow = rows.follow;
      },
      c.self.invariant.1,
      c.self.invariant.2,
    )
