use Rattle.std.proofs.Common.{◌≡◌, ℕ, suc, ◌+◌, ◌++◌, ◌∷◌, [], Bool, true, false, if◌then◌else◌, Option, is_some, List, append_assoc, sym, ap, ◌∙◌, arith}
use Rattle.std.proofs.lemmas.List.{append-nil}
use Rattle.r3k_machine.specs.declared.step.Done.{Done}
use Rattle.r3k_machine.specs.declared.target.Target.TheVariants.{Register}
use Rattle.r3k_machine.specs.Run.{last_writer}
use Rattle.r3k_live.specs.Marks.{mark_of, registers_below}
use Rattle.r3k_live.proofs.destinations.Destinations.add_marks.Goals.{then-is_some+in_ok-push, else-is_some}
use Rattle.r3k_live.proofs.destinations.Destinations.add_marks.Goals as goal

-- one more register
one_more : (before so_far now : List ℕ) (steps : List Done) (number : ℕ) (written : Bool) → is_some (last_writer (Register number) steps) ≡ written
    → so_far ≡ before ++ registers_below steps number → now ≡ so_far ++ (if written then mark_of (Register number) ∷ [] else [])
    → now ≡ before ++ registers_below steps (number + 1)
unfolding registers_below
one_more before so_far now steps number written is was added =
    added
    ∙ (ap (λ (xs : List ℕ). xs ++ (if written then mark_of (Register number) ∷ [] else [])) was
    ∙ (append_assoc before (registers_below steps number) (if written then mark_of (Register number) ∷ [] else [])
    ∙ ap (λ (xs : List ℕ). before ++ xs)
    (ap (λ (b : Bool). registers_below steps number ++ (if b then mark_of (Register number) ∷ [] else [])) (sym is)
    ∙ ap (registers_below steps) (let e : suc number ≡ number + 1 = omega arith in e))))

pub loop-register-init : goal.loop-register-init
unfolding registers_below
loop-register-init c = λ steps are. sym (append-nil c.args.marks.now.items)

pub loop-register-preserved : goal.loop-register-preserved
loop-register-preserved c = λ steps are.
    let number = c.loop-register.register in
    let before = c.args.marks.now.items in
    let so_far = c.loop-register.marks.items in
    let written = ap (λ (o : Option ℕ). is_some o) (sym (c.writer.ensures steps are)) ∙ sym c.is_some.ensures in
    elim c.if-is_some.branch [
      | then-is_some+in_ok-push w ↦
          rw w.marks-is
          (one_more before so_far _ steps number true (written ∙ w.if-is_some.true) (c.loop-register.invariant steps are)
          ((w.in_ok-push.ensures {u = tt}).items ∙ ap (λ (n : ℕ). so_far ++ n ∷ []) w.mark.ensures))
      | else-is_some w ↦
          rw w.marks-is
          (one_more before so_far _ steps number false (written ∙ w.if-is_some.false) (c.loop-register.invariant steps are) (sym (append-nil so_far)))
    ]

pub returns : goal.returns
returns c = λ steps are.
    c.loop-register.invariant steps are
    ∙ ap (λ (n : ℕ). c.args.marks.now.items ++ registers_below steps n) (let e : c.loop-register.register ≡ 34 = omega (arith, c.loop-register.auto.register-end, c.loop-register-test.false) in e)
