-- The first word, after the blanks before it.
use Rattle.std.proofs.Common.{◌∙◌, rules, arith, ap, drop}
use Rattle.wb_text.proofs.WordsOfLine.{words_of-nil, words_of-first_word}
use Rattle.wb_text.proofs.words.first_word.Goals as goal

pub returns-then-is_empty-clause-words : goal.returns-then-is_empty-clause-words
returns-then-is_empty-clause-words c =
    let rest = c.split_at.ensures.back ∙ ap (λ n. drop n c.args.text.now) c.word_start.ensures.place in
    words_of-nil c.args.text.now c.split_at.result.1.now rest (search rules)

pub returns-clause-words : goal.returns-clause-words
returns-clause-words c =
    let rest = c.split_at.ensures.back ∙ ap (λ n. drop n c.args.text.now) c.word_start.ensures.place in
    let first = words_of-first_word c.args.text.now c.split_at.result.1.now rest (search rules) in
    rw (c.split_at-2.ensures.front, c.split_at-2.ensures.back, c.word_end.ensures.place) first.0

pub returns-clause-not_empty : goal.returns-clause-not_empty
returns-clause-not_empty c =
    let rest = c.split_at.ensures.back ∙ ap (λ n. drop n c.args.text.now) c.word_start.ensures.place in
    let first = words_of-first_word c.args.text.now c.split_at.result.1.now rest (search rules) in
    omega (arith, c.split_at-2.ensures.front_len, c.word_end.ensures.place, first.1)
