use Rattle.std.proofs.Common.{◌≡◌, ◌⊎◌, inl, inr, ℕ, ◌<◌, ◌≤◌, List, [], ◌∷◌, ◌++◌, length, take, drop, Some, Ok, Err, Result, refl, sym, ap, ◌∙◌, append_assoc, arith}
use Rattle.std.proofs.lemmas.Bool.{eqb-false}
use Rattle.std.proofs.lemmas.List.{append-nil, length-take-le, take-append-drop}
use Rattle.wb_io.specs.Calls.{Call, Each, Fails, MovesNone, MovesSome, TakesFront, bytes_moved, call}
use Rattle.wb_io.specs.declared.source.Failed.{Failed}
use Rattle.wb_io.proofs.CallLemmas.{Each-append_one, Writes-one, Writes-trans, bytes_moved-append}
use Rattle.wb_io.proofs.whole.write_whole.Goals as goal

-- the calls so far and one that took none
stops : (calls : List Call) (bytes rest : List ℕ) (asked : ℕ) (answer : Result ℕ Failed) → Each MovesSome calls → bytes ≡ bytes_moved calls ++ rest → bytes_moved (call asked answer rest ∷ []) ≡ [] → Fails (call asked answer rest) ⊎ MovesNone (call asked answer rest) → 0 < length rest → TakesFront bytes (calls ++ call asked answer rest ∷ [])
stops calls bytes rest asked answer each is none stopped left = record {
  good = calls;
  bad = call asked answer rest;
  rest = rest;
  calls_are = refl;
  each = each;
  stopped = stopped;
  front = is ∙ ap (λ (z : List ℕ). z ++ rest) (sym (bytes_moved-append calls (call asked answer rest ∷ []) ∙ (ap (λ (z : List ℕ). bytes_moved calls ++ z) none ∙ append-nil (bytes_moved calls))));
  left = left;
}

pub returns-in-Err : goal.returns-in-Err
returns-in-Err g c =
    let h = c.loop-rest.invariant in
    let w = c.in-Err.ensures in
    let rest = c.loop-rest.rest.now in
    let answer : Result ℕ Failed = Err c.in-Err.field-0 in
    let one : Call = call (length rest) answer rest in
    let some = eqb-false (length rest) 0 (sym (c.loop-rest-test.ensures {u = tt})) in (
      h.0 ++ one ∷ [],
      Writes-trans _ _ _ _ _ _ h.0 (one ∷ []) h.1 (Writes-one _ _ _ _ (length rest) answer rest w.called w.takes),
      stops h.0 c.args.bytes.now rest (length rest) answer h.2 h.3 refl (inl refl) (omega (arith, some)),
    )

pub returns-in-Ok-eq0 : goal.returns-in-Ok-eq0
returns-in-Ok-eq0 g c =
    let h = c.loop-rest.invariant in
    let w = c.in-Ok-eq0.ensures in
    let rest = c.loop-rest.rest.now in
    let answer : Result ℕ Failed = Ok c.in-Ok-eq0.field-0 in
    let one : Call = call (length rest) answer rest in
    let zero : c.in-Ok-eq0.field-0 ≡ 0 = omega (arith, c.in-Ok-eq0.field-0-test) in
    let none : take c.in-Ok-eq0.field-0 rest ≡ [] = ap (λ (n : ℕ). take n rest) zero in
    let some = eqb-false (length rest) 0 (sym (c.loop-rest-test.ensures {u = tt})) in (
      h.0 ++ one ∷ [],
      Writes-trans _ _ _ _ _ _ h.0 (one ∷ []) h.1 (Writes-one _ _ _ _ (length rest) answer rest w.called w.takes),
      stops h.0 c.args.bytes.now rest (length rest) answer h.2 h.3 (append-nil (take c.in-Ok-eq0.field-0 rest) ∙ none) (inr (omega (arith, some), ap Some none)) (omega (arith, some)),
    )

-- the calls so far and one that took some
takes_on : (calls : List Call) (bytes rest after : List ℕ) (count : ℕ) (answer : Result ℕ Failed) → answer ≡ Ok count → bytes ≡ bytes_moved calls ++ rest → after ≡ drop count rest → bytes ≡ bytes_moved (calls ++ call (length rest) answer rest ∷ []) ++ after
takes_on calls bytes rest after count answer is all left =
    all ∙ (ap (λ (z : List ℕ). bytes_moved calls ++ z) (sym (take-append-drop count rest)) ∙ (sym (append_assoc (bytes_moved calls) (take count rest) (drop count rest))
    ∙ (ap (λ (z : List ℕ). (bytes_moved calls ++ take count rest) ++ z) (sym left)
    ∙ ap (λ (z : List ℕ). z ++ after) (sym (bytes_moved-append calls (call (length rest) answer rest ∷ []) ∙ ap (λ (z : List ℕ). bytes_moved calls ++ z) (ap (λ (r : Result ℕ Failed). bytes_moved (call (length rest) r rest ∷ [])) is ∙ append-nil (take count rest)))))))

pub loop-rest-preserved : goal.loop-rest-preserved
loop-rest-preserved g c =
    let h = c.loop-rest.invariant in
    let w = c.in-Ok.ensures in
    let count = c.in-Ok.count in
    let rest = c.loop-rest.rest.now in
    let answer : Result ℕ Failed = Ok count in
    let one : Call = call (length rest) answer rest in (
      h.0 ++ one ∷ [],
      Writes-trans _ _ _ _ _ _ h.0 (one ∷ []) h.1 (Writes-one _ _ _ _ (length rest) answer rest w.called w.takes),
      Each-append_one MovesSome h.0 one h.2 (let within : count ≤ length rest = w.within in rw length-take-le (omega (arith, c.in-Ok.count-test))),
      takes_on h.0 c.args.bytes.now rest _ count answer refl h.3 c.split_at.ensures.back,
    )
