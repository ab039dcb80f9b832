use Rattle.std.proofs.Common.{◌≡◌, ◌/◌, length, ap, ◌∙◌, arith}
use Rattle.std.proofs.lemmas.List.{take_at}
use Rattle.r3k_image.specs.Reading.{words_of}
use Rattle.r3k_image.proofs.Words.{words_from_reads}
use Rattle.r3k_image.proofs.reading.read_words.Goals as goal

pub returns : goal.returns
returns c =
    let words = c.read_u32_into.new.dst in
    let count : length words ≡ c.in_ok-words.words.len = omega (arith, c.read_u32_into.auto.dst, c.deref_mut.ensures.len, c.in_ok-words.ensures.len) in
    let whole : length words ≡ length c.args.bytes.now / 4 = omega (arith, count, c.in_ok-words.ensures.len) in
    take_at words _ _ count ∙ words_from_reads words c.args.bytes.now c.read_u32_into.ensures ∙ ap (λ n. words_of n c.args.bytes.now) whole
