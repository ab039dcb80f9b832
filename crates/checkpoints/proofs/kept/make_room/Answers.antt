use Rattle.std.proofs.Common.{◌<◌, ◌∷◌, ◌++◌, [], Option, List, inl, inr, length, slice_set, sym, ap, ◌∙◌, arith}
use Rattle.std.proofs.lemmas.Bool.{cases_eq}
use Rattle.std.proofs.lemmas.List.{map-append}
use Rattle.r3k_machine.specs.State.{State}
use Rattle.checkpoints.specs.Kept.{row_at}
use Rattle.checkpoints.specs.Rows.{Places, ends_in, ends_of, records_of}
use Rattle.checkpoints.proofs.Rows.{ends_pushed, item, kept_by, row_is, row_other, row_pushed, row_set}
use Rattle.checkpoints.proofs.kept.make_room.Goals as goal

pub loop-alloc-preserved : goal.loop-alloc-preserved
loop-alloc-preserved g c = (
  λ i.
      ap (λ (places : List Places). row_at (records_of places) i) (c.in_ok-push.ensures {u = tt}).items
      ∙ (row_pushed c.loop-alloc.rows.items c.new.result i c.new.ensures.records ∙ c.loop-alloc.invariant.0 i),
  λ n.
      ap (λ (places : List Places). ends_of n (ends_in places)) (c.in_ok-push.ensures {u = tt}).items
      ∙ (ap (ends_of n) (map-append (λ p. p.end) c.loop-alloc.rows.items (c.new.result ∷ []) ∙ ap (λ (o : Option State). ends_in c.loop-alloc.rows.items ++ o ∷ []) c.new.ensures.end)
      ∙ (ends_pushed n (ends_in c.loop-alloc.rows.items) ∙ c.loop-alloc.invariant.1 n)),
)

pub returns-clause-rows : goal.returns-clause-rows
returns-clause-rows g c = λ i.
    let places = c.loop-alloc.rows.items in
    let n = c.args.index in
    let p = c.index_mut.result.now in
    let q = c.make_room.new.self in
    let within : n < length places = omega (arith, c.loop-alloc-test.false) in
    let there = item places n p within c.index_mut.ensures.value in
    elim (cases_eq i n) [
      | inl same ↦
          ap (row_at (records_of (slice_set places n q))) same
          ∙ (row_set places n q within ∙ (c.make_room.ensures.records ∙ (sym (row_is places n p there) ∙ ap (row_at (records_of places)) (sym same))))
      | inr other ↦ row_other places n i q other
    ]
    ∙ c.loop-alloc.invariant.0 i

pub returns-clause-ends : goal.returns-clause-ends
returns-clause-ends g c = λ n.
    let places = c.loop-alloc.rows.items in
    let there = item places c.args.index c.index_mut.result.now (omega (arith, c.loop-alloc-test.false)) c.index_mut.ensures.value in
    ap (ends_of n) (kept_by (λ p. p.end) places c.args.index c.index_mut.result.now c.make_room.new.self there c.make_room.ensures.end) ∙ c.loop-alloc.invariant.1 n
