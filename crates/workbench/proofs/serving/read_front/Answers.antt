use Rattle.std.proofs.Common.{◌≡◌, ℕ, ◌<◌, ◌≤◌, ◌+◌, ◌-◌, inl, inr, List, [], ◌∷◌, ◌++◌, length, min, take, drop, Some, Ok, Err, Result, refl, sym, ap, ◌∙◌, arith, length-append, length-take-le}
use Rattle.std.proofs.lemmas.Grind.{common_steps}
use Rattle.std.proofs.lemmas.List.{append-nil, take-append-le}
use Rattle.wb_io.specs.Calls.{Call, MovesSome, bytes_moved, call}
use Rattle.wb_io.specs.declared.source.Failed.{Failed}
use Rattle.wb_io.proofs.CallLemmas.{Reads-end, Reads-failed, Reads-nil, Reads-some, Reads-trans, bytes_moved-append}
use Rattle.workbench.proofs.Fronts.{AsksFor-append_one}
use Rattle.workbench.proofs.serving.read_front.Goals as goal

pub loop-piece-init : goal.loop-piece-init
loop-piece-init g c = (
  [],
  Reads-nil (g.R.Source.reads c.args.reader.now) (g.R.Source.left c.args.reader.now),
  tt,
  c.new-bytes.ensures.items,
  omega arith,
  refl,
  refl,
)

pub returns-in-Err : goal.returns-in-Err
returns-in-Err g c =
    let h = c.loop-piece.invariant in
    let piece = c.loop-piece.piece in
    let wanted = c.min-wanted.result in
    let items : length c.loop-piece.bytes.items ≡ length (bytes_moved h.0) = ap length h.3 in
    let short : length (bytes_moved h.0) < c.args.size = grind (arith, common_steps, items) in
    let least : wanted ≡ min (c.args.size - length (bytes_moved h.0)) 4096 = grind (arith, common_steps, items) in
    let fits : wanted ≤ length piece = omega (arith, least, h.6) in
    let asked : length (take wanted piece) ≡ min (c.args.size - length (bytes_moved h.0)) 4096 = length-take-le wanted piece fits ∙ least in
    let w = c.in-Err.ensures {u = tt} in
    let answer : Result ℕ Failed = Err c.in-Err.field-0 in
    let one : Call = call (length (take wanted piece)) answer c.read.new.buffer in
    let more = length-append h.0 (one ∷ []) in (
      h.0 ++ one ∷ [],
      Reads-trans _ _ _ _ _ _ h.0 (one ∷ []) h.1 (Reads-failed _ _ _ _ one w.called refl w.gives),
      omega (arith, more, h.5),
      inl (record { pieces = h.0; last = one; reads_are = refl; each = h.2; short = short; asked = asked; so = inl refl }),
    )

pub returns-in-Ok-eq0 : goal.returns-in-Ok-eq0
returns-in-Ok-eq0 g c =
    let h = c.loop-piece.invariant in
    let piece = c.loop-piece.piece in
    let wanted = c.min-wanted.result in
    let items : length c.loop-piece.bytes.items ≡ length (bytes_moved h.0) = ap length h.3 in
    let short : length (bytes_moved h.0) < c.args.size = grind (arith, common_steps, items) in
    let least : wanted ≡ min (c.args.size - length (bytes_moved h.0)) 4096 = grind (arith, common_steps, items) in
    let fits : wanted ≤ length piece = omega (arith, least, h.6) in
    let asked : length (take wanted piece) ≡ min (c.args.size - length (bytes_moved h.0)) 4096 = length-take-le wanted piece fits ∙ least in
    let w = c.in-Ok-eq0.ensures {u = tt} in
    let count = c.in-Ok-eq0.field-0 in
    let zero : count ≡ 0 = omega (arith, c.in-Ok-eq0.field-0-test) in
    let none : take count c.read.new.buffer ≡ [] = ap (λ (n : ℕ). take n c.read.new.buffer) zero in
    let answer : Result ℕ Failed = Ok count in
    let one : Call = call (length (take wanted piece)) answer c.read.new.buffer in
    let more = length-append h.0 (one ∷ []) in
    let some : 0 < length (take wanted piece) = omega (arith, asked, short) in (
      h.0 ++ one ∷ [],
      Reads-trans _ _ _ _ _ _ h.0 (one ∷ []) h.1 (Reads-end _ _ _ _ one w.called w.gives (w.end zero)),
      omega (arith, more, h.5),
      inl (record { pieces = h.0; last = one; reads_are = refl; each = h.2; short = short; asked = asked; so = inr (some, ap Some none) }),
    )

pub returns-in-Err-extend_from_slice : goal.returns-in-Err-extend_from_slice
returns-in-Err-extend_from_slice g c =
    let h = c.loop-piece.invariant in
    let piece = c.loop-piece.piece in
    let wanted = c.min-wanted.result in
    let items : length c.loop-piece.bytes.items ≡ length (bytes_moved h.0) = ap length h.3 in
    let short : length (bytes_moved h.0) < c.args.size = grind (arith, common_steps, items) in
    let least : wanted ≡ min (c.args.size - length (bytes_moved h.0)) 4096 = grind (arith, common_steps, items) in
    let fits : wanted ≤ length piece = omega (arith, least, h.6) in
    let asked : length (take wanted piece) ≡ min (c.args.size - length (bytes_moved h.0)) 4096 = length-take-le wanted piece fits ∙ least in
    let w = c.in-Ok.ensures {u = tt} in
    let count = c.in-Ok.count in
    let buffer = c.read.new.buffer in
    let answer : Result ℕ Failed = Ok count in
    let one : Call = call (length (take wanted piece)) answer buffer in
    let more = length-append h.0 (one ∷ []) in
    let same : length buffer ≡ length (take wanted piece) = omega (arith, c.read.auto.buffer) in
    let within : count ≤ length buffer = omega (arith, w.within, same) in
    let some : MovesSome one = rw length-take-le (omega (arith, c.in-Ok.count-test)) in (
      h.0 ++ one ∷ [],
      Reads-trans _ _ _ _ _ _ h.0 (one ∷ []) h.1 (Reads-some _ _ _ _ one w.called w.gives some),
      omega (arith, more, h.5),
      AsksFor-append_one c.args.size h.0 one h.2 asked some,
    )

pub loop-piece-preserved : goal.loop-piece-preserved
loop-piece-preserved g c =
    let h = c.loop-piece.invariant in
    let piece = c.loop-piece.piece in
    let wanted = c.min-wanted.result in
    let items : length c.loop-piece.bytes.items ≡ length (bytes_moved h.0) = ap length h.3 in
    let short : length (bytes_moved h.0) < c.args.size = grind (arith, common_steps, items) in
    let least : wanted ≡ min (c.args.size - length (bytes_moved h.0)) 4096 = grind (arith, common_steps, items) in
    let fits : wanted ≤ length piece = omega (arith, least, h.6) in
    let asked : length (take wanted piece) ≡ min (c.args.size - length (bytes_moved h.0)) 4096 = length-take-le wanted piece fits ∙ least in
    let w = c.in-Ok.ensures {u = tt} in
    let count = c.in-Ok.count in
    let buffer = c.read.new.buffer in
    let answer : Result ℕ Failed = Ok count in
    let one : Call = call (length (take wanted piece)) answer buffer in
    let more = length-append h.0 (one ∷ []) in
    let same : length buffer ≡ length (take wanted piece) = omega (arith, c.read.auto.buffer) in
    let within : count ≤ length buffer = omega (arith, w.within, same) in
    let some : MovesSome one = rw length-take-le (omega (arith, c.in-Ok.count-test)) in
    let bytes : bytes_moved (h.0 ++ one ∷ []) ≡ bytes_moved h.0 ++ take count buffer = bytes_moved-append h.0 (one ∷ []) ∙ ap (λ (z : List ℕ). bytes_moved h.0 ++ z) (append-nil (take count buffer)) in
    let given : take count (buffer ++ drop wanted piece) ≡ take count buffer = take-append-le count buffer (drop wanted piece) within in
    let held : c.extend_from_slice.new.self.items ≡ bytes_moved (h.0 ++ one ∷ []) =
    (c.in-Ok-extend_from_slice.ensures {u = tt}).items ∙ (ap (λ (z : List ℕ). c.loop-piece.bytes.items ++ z) given ∙ (ap (λ (z : List ℕ). z ++ take count buffer) h.3 ∙ sym bytes)) in
    let long : length (bytes_moved (h.0 ++ one ∷ [])) ≡ length (bytes_moved h.0) + count = ap length bytes ∙ (length-append (bytes_moved h.0) (take count buffer) ∙ ap (λ n. length (bytes_moved h.0) + n) (length-take-le count buffer within)) in (
      h.0 ++ one ∷ [],
      Reads-trans _ _ _ _ _ _ h.0 (one ∷ []) h.1 (Reads-some _ _ _ _ one w.called w.gives some),
      AsksFor-append_one c.args.size h.0 one h.2 asked some,
      held,
      omega (arith, long, within, same, asked, short),
      omega (arith, more, h.5, c.if-reads_left-eq0.false),
      grind (arith, common_steps),
    )
