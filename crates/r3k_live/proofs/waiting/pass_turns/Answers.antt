use Rattle.std.proofs.Common.{◌≡◌, ◌*◌, ◌/◌, ◌≤◌, All, Contains, List, sym, subst, ◌∙◌, arith}
use Rattle.std.proofs.Math.Nat.{le-mul_of_pos_right, mul-div-le}
use Rattle.r3k_live.specs.Waiting.{IsHeld, held_at}
use Rattle.r3k_live.specs.declared.stores.Held.{Held}
use Rattle.r3k_live.proofs.Holding.{is_one_of, later_held, same_held}
use Rattle.r3k_live.proofs.waiting.pass_turns.Goals as goal

pub pass-requires : goal.pass-requires
pass-requires g c =
    let same : c.in-Some.again.items ≡ c.args.held.now = sym c.deref.ensures.0 ∙ same_held c.deref.result.now c.args.held.now c.if-ne.ensures in
    let turn = c.args.turn in
    let turns = c.args.most / turn in
    let whole : turn * turns ≤ c.args.most = mul-div-le c.args.most turn in
    let some : turn ≤ turn * turns = le-mul_of_pos_right turn (omega (arith, c.if-turns-eq0.false)) in
    let are = subst (All (IsHeld c.args.since c.args.recorder.now.last c.args.words.now)) same c.in-Some.ensures.are in (
      omega arith,
      (
        omega (arith, c.requires.room, whole),
        (
          omega (arith, c.requires.made, some),
          (
            later_held c.args.since c.args.recorder.now.last c.args.words.now c.args.held.now are,
            λ place later. is_one_of c.args.held.now c.args.words.now place (subst (λ (held : List Held). Contains held (held_at c.args.words.now place)) same (c.in-Some.ensures.all place later)),
          ),
        ),
      ),
    )

pub returns-clause-held : goal.returns-clause-held
returns-clause-held g c = λ some place later.
    let same : c.in-Some.again.items ≡ c.args.held.now = sym c.deref.ensures.0 ∙ same_held c.deref.result.now c.args.held.now c.if-ne.ensures in
    subst (λ (held : List Held). Contains held (held_at c.args.words.now place)) same (c.in-Some.ensures.all place later)
