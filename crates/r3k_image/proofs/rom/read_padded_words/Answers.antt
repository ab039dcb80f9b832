use Rattle.std.proofs.Common.{◌≡◌, ◌<◌, ◌*◌, ◌/◌, ◌++◌, [], ◌∷◌, length, drop, sym, ap, ◌∙◌, arith}
use Rattle.std.proofs.lemmas.List.{append-nil, nil_from_length, take-append-drop}
use Rattle.std.proofs.lemmas.Bool.{eqb-true, eqb-false}
use Rattle.byteorder.specs.Endian.{little_number}
use Rattle.r3k_image.specs.Reading.{rom_words}
use Rattle.r3k_image.proofs.RomWords.{rom_words-whole, rom_words-part, last_word}
use Rattle.r3k_image.proofs.rom.read_padded_words.Goals as goal
use Rattle.r3k_image.proofs.rom.read_padded_words.Goals.{then-not-is_empty+in_ok-push, else-not-is_empty}

pub returns : goal.returns
returns c =
    let bytes = c.args.bytes.now in
    let whole = c.split_at.result.0.now in
    let part = c.split_at.result.1.now in
    let n = length whole / 4 in
    let both : bytes ≡ whole ++ part = sym (take-append-drop (length bytes / 4 * 4) bytes) ∙ (λ i. sym c.split_at.ensures.front i ++ sym c.split_at.ensures.back i) in
    let len : length whole ≡ 4 * n = omega (arith, c.split_at.ensures.front_len) in
    elim c.if-not-is_empty.branch [
      | then-not-is_empty+in_ok-push w ↦
          let filled = eqb-false (length part) 0 (sym w.if-not-is_empty.ensures) in
          let some : 0 < length part = omega (arith, filled) in
          let few : length part < 4 = omega (arith, c.split_at.ensures.front_len, c.split_at.ensures.back_len) in
          ap (λ v. v.items) w.words-is ∙ w.in_ok-push.ensures.items
          ∙ (λ i. c.in_ok-words.ensures i ++ ((w.read_u32.ensures ∙ ap (λ p. little_number 4 (p ++ drop (length part) (0 ∷ 0 ∷ 0 ∷ 0 ∷ []))) w.copy_from_slice.ensures.after ∙ last_word part some few) i ∷ []))
          ∙ sym (ap rom_words both ∙ rom_words-part n whole part len some few)
      | else-not-is_empty w ↦
          let none : part ≡ [] = nil_from_length part (eqb-true (length part) 0 (sym w.if-not-is_empty.ensures)) in
          ap (λ v. v.items) w.words-is ∙ c.in_ok-words.ensures
          ∙ sym (ap rom_words (both ∙ ap (λ p. whole ++ p) none ∙ append-nil whole) ∙ rom_words-whole n whole len)
    ]
