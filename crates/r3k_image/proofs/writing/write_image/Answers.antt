-- The parts of the image, one after the other.
use Rattle.std.proofs.Common.{◌≡◌, ◌++◌, length, arith, sym, ap, subst, ◌∙◌}
use Rattle.std.proofs.lemmas.List.{length-map}
use Rattle.std.specs.Prelude.{flat_map}
use Rattle.std.specs.FinMap as map
use Rattle.r3k_word.specs.Word.{bytes_of}
use Rattle.r3k_image.specs.Spelling.{segment, spelling}
use Rattle.r3k_image.specs.Segments.{view, views, boot_of}
use Rattle.r3k_image.specs.Writing.{words_in, runs_of, bytes_of_image}
use Rattle.r3k_image.proofs.Fields.{few}
use Rattle.r3k_image.proofs.SetWords.{entries_of_words, entries_of_segments}
use Rattle.r3k_image.proofs.Pushing.{spelled}
use Rattle.r3k_image.proofs.writing.write_image.Goals as goal

pub overflow_cast-len : goal.overflow_cast-len
overflow_cast-len c =
    let count = few 0 (views c.in_ok-runs.runs.items) (omega arith) c.in_ok-runs.ensures.stand in
    omega (arith, count, length-map c.in_ok-runs.runs.items view, c.in_ok-runs.runs.ok.0, c.len.ensures)

pub returns : goal.returns
returns c =
    let ss = views c.image.inside.segments.items in
    let made = boot_of ss c.image.inside.byte_time c.image.inside.unit c.image.inside.clock_start in
    let stand = c.image.invariant.stand in
    let words : map.entries made.words ≡ words_in ss = entries_of_words 0 (words_in ss) (entries_of_segments 0 ss stand) in
    let runs : views c.in_ok-runs.runs.items ≡ runs_of (map.entries made.words) =
    c.in_ok-runs.ensures.runs ∙ ap (λ s. runs_of (words_in (views s))) c.deref.ensures.value ∙ sym (ap runs_of words) in
    let count : c.len.result ≡ length (views c.in_ok-runs.runs.items) =
    c.len.ensures ∙ c.in_ok-runs.runs.ok.0 ∙ sym (length-map c.in_ok-runs.runs.items view) in
    let whole : c.push_segments.new.bytes.items ≡ bytes_of_image made =
    spelled made (views c.in_ok-runs.runs.items) c.in_ok-bytes.bytes.items c.push_number.new.bytes.items c.push_number-2.new.bytes.items c.extend_from_slice.new.self.items
    c.push_number-3.new.bytes.items c.push_segments.new.bytes.items c.len.result
    c.in_ok-bytes.ensures.items
    (c.in_ok-push_number.ensures ∙ ap (λ n. c.in_ok-bytes.bytes.items ++ bytes_of n) c.from.ensures)
    (c.in_ok-push_number-2.ensures ∙ ap (λ n. c.push_number.new.bytes.items ++ bytes_of n) c.from-2.ensures)
    c.in_ok-extend_from_slice.ensures.items c.in_ok-push_number-3.ensures
    (c.in_ok-push_segments.ensures ∙ ap (λ s. c.push_number-3.new.bytes.items ++ flat_map segment (views s)) c.deref-2.ensures.value)
    count ∙ ap (spelling made) runs in
    subst (λ boot. c.push_segments.new.bytes.items ≡ bytes_of_image boot) c.image.view_is whole
