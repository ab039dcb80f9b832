-- A word is written over the one at its address, after a segment, or as a segment of its own.
use Rattle.std.proofs.Common.{◌≡◌, ◌-◌, ◌/◌, List, sym, ap, subst, ◌∙◌, refl, arith, Result, Ok, Err}
use Rattle.std.specs.Prelude.{OnErr}
use Rattle.std.specs.List.{insert}
use Rattle.std.specs.Vec.{with_item}
use Rattle.std.proofs.lemmas.List.{set-get_or}
use Rattle.std.proofs.Math.Seq.{map-set_same}
use Rattle.r3k_image.specs.declared.segment.Segment.{Segment}
use Rattle.r3k_image.specs.Segments.{view, views}
use Rattle.r3k_image.proofs.LongestRuns.{at}
use Rattle.std.proofs.Math.ListN.{set}
use Rattle.r3k_image.proofs.Patching.{Patched, Found, found, write_over, write_after, write_first, write_apart}
use Rattle.r3k_image.proofs.patch.put_word.Goals as goal
use Rattle.r3k_image.proofs.patch.put_word.Goals.{then-count-gt0+else-offset-len+else-offset-len-2, else-count-gt0}

over : (c : goal.After-segments-1) → Patched 0 c.args.address c.args.word (views c.args.segments.now.items) (views (set c.args.segments.now.items (c.count_up_to-count.result - 1)
    (record { address = c.index_mut-segment.result.now.address; words = with_item c.index_mut-segment.result.now.words ((c.args.address - c.index_mut-segment.result.now.address) / 4) c.args.word })))
over c =
    let last = c.index_mut-segment.result.now in
    let here : Found c.args.address c.args.segments.now.items c.count_up_to-count.result last =
    found c.args.address c.args.segments.now.items c.deref.result.now c.count_up_to-count.result last
    c.deref.ensures.value c.requires.stand c.count_up_to-count.ensures.parted c.count_up_to-count.ensures.bound c.if-count-gt0.true c.index_mut-segment.ensures.value in
    write_over c.args.address c.args.word c.args.segments.now.items c.count_up_to-count.result last
    (record { address = last.address; words = with_item last.words ((c.args.address - last.address) / 4) c.args.word }) c.requires.stand c.requires.placed here (omega (arith, last.words.ok.0)) refl

pub returns-then-offset-len-clause-words : goal.returns-then-offset-len-clause-words
returns-then-offset-len-clause-words c = (over c).words

pub returns-then-offset-len-clause-stand : goal.returns-then-offset-len-clause-stand
returns-then-offset-len-clause-stand c = (over c).stand

on_err : {A E : Type 0} (r : Result A E) (P : Type 0) → P → OnErr r P
on_err (Ok x) P p = tt
on_err (Err e) P p = p

pub returns-in_err-push-clause-kept : goal.returns-in_err-push-clause-kept
returns-in_err-push-clause-kept c =
    let last = c.index_mut-segment.result.now in
    on_err c.from_residual.result _
    (map-set_same view c.args.segments.now.items (c.count_up_to-count.result - 1) (record { address = last.address; words = c.push.new.self }) last
    (ap (λ ws. at last.address ws) c.in_err-push.ensures.items ∙ ap view c.index_mut-segment.ensures.value))

pub returns-then-offset-len-2-clause-words : goal.returns-then-offset-len-2-clause-words
returns-then-offset-len-2-clause-words c =
    let last = c.index_mut-segment.result.now in
    let here : Found c.args.address c.args.segments.now.items c.count_up_to-count.result last =
    found c.args.address c.args.segments.now.items c.deref.result.now c.count_up_to-count.result last
    c.deref.ensures.value c.requires.stand c.count_up_to-count.ensures.parted c.count_up_to-count.ensures.bound c.if-count-gt0.true c.index_mut-segment.ensures.value in
    (write_after c.args.address c.args.word c.args.segments.now.items c.count_up_to-count.result last
    (record { address = last.address; words = c.push.new.self }) c.requires.stand c.requires.placed here (omega (arith, last.words.ok.0)) (ap (λ ws. at last.address ws) c.in_ok-push.ensures.items)).words

pub returns-then-offset-len-2-clause-stand : goal.returns-then-offset-len-2-clause-stand
returns-then-offset-len-2-clause-stand c =
    let last = c.index_mut-segment.result.now in
    let here : Found c.args.address c.args.segments.now.items c.count_up_to-count.result last =
    found c.args.address c.args.segments.now.items c.deref.result.now c.count_up_to-count.result last
    c.deref.ensures.value c.requires.stand c.count_up_to-count.ensures.parted c.count_up_to-count.ensures.bound c.if-count-gt0.true c.index_mut-segment.ensures.value in
    (write_after c.args.address c.args.word c.args.segments.now.items c.count_up_to-count.result last
    (record { address = last.address; words = c.push.new.self }) c.requires.stand c.requires.placed here (omega (arith, last.words.ok.0)) (ap (λ ws. at last.address ws) c.in_ok-push.ensures.items)).stand

-- where the segments are as they were
alone : (c : goal.In_ok-insert) → c.if-count-gt0.segments.items ≡ c.args.segments.now.items
    → Patched 0 c.args.address c.args.word (views c.args.segments.now.items) (views (insert c.args.segments.now.items c.count_up_to-count.result (record { address = c.args.address; words = c.in_ok-words.words })))
    → Patched 0 c.args.address c.args.word (views c.args.segments.now.items) (views c.insert.new.self.items)
alone c kept done =
    let new : Segment = record { address = c.args.address; words = c.in_ok-words.words } in
    subst (λ (ss : List Segment). Patched 0 c.args.address c.args.word (views c.args.segments.now.items) (views ss))
    (sym (c.in_ok-insert.ensures.items ∙ ap (λ (ss : List Segment). insert ss c.count_up_to-count.result new) kept)) done

made : (c : goal.In_ok-insert) → Patched 0 c.args.address c.args.word (views c.args.segments.now.items) (views c.insert.new.self.items)
made c =
    let segments = c.args.segments.now.items in
    let count = c.count_up_to-count.result in
    let new : Segment = record { address = c.args.address; words = c.in_ok-words.words } in
    let one = ap (λ ws. at c.args.address ws) c.in_ok-words.ensures.items in
    elim c.if-count-gt0.branch [
      | then-count-gt0+else-offset-len+else-offset-len-2 w ↦
          let last = w.index_mut-segment.result.now in
          let here : Found c.args.address segments count last =
          found c.args.address segments c.deref.result.now count last
          c.deref.ensures.value c.requires.stand c.count_up_to-count.ensures.parted c.count_up_to-count.ensures.bound w.if-count-gt0.true w.index_mut-segment.ensures.value in
          alone c (ap (λ v. v.items) w.segments-is ∙ ap (set segments (count - 1)) w.index_mut-segment.ensures.value ∙ set-get_or segments (count - 1) last)
          (write_apart c.args.address c.args.word segments count last new c.requires.stand c.requires.placed here (omega (arith, last.words.ok.0)) one)
      | else-count-gt0 w ↦
          alone c (ap (λ v. v.items) w.segments-is)
          (write_first c.args.address c.args.word segments c.deref.result.now count new c.deref.ensures.value c.requires.stand c.requires.placed
          c.count_up_to-count.ensures.parted c.count_up_to-count.ensures.bound w.if-count-gt0.false one)
    ]

pub returns-clause-words : goal.returns-clause-words
returns-clause-words c = (made c).words

pub returns-clause-stand : goal.returns-clause-stand
returns-clause-stand c = (made c).stand
