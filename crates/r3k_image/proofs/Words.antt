-- Words and their bytes, one after the other.
use Rattle.std.proofs.Common.{◌≡◌, ℕ, zero, suc, ◌+◌, ◌*◌, ◌^◌, ◌<◌, List, [], ◌∷◌, ◌++◌, length, take, drop, refl, sym, ap, ◌∙◌, arith}
use Rattle.std.specs.Prelude.{All, flat_map}
use Rattle.std.proofs.lemmas.List.{drop-drop, length-drop, take-append-drop, nil_from_length}
use Rattle.std.proofs.lemmas.List.Elements.{All-nil, All-cons, All-head, All-tail}
use Rattle.byteorder.specs.Endian.{little_number, IsRead}
use Rattle.r3k_word.specs.Word.{word_of, bytes_of}
use Rattle.r3k_word.proofs.Read.{AreBytes, AreBytes-drop, word_of-fits, word_again, bytes_again}
use Rattle.r3k_image.specs.Reading.{words_of}

-- every item is a word
abbrev pub AreWords : List ℕ → Type 0
AreWords words = All (λ w. w < 2 ^ 32) words

-- what is read of four bytes in either way of writing it
pub word_of-little : (bytes : List ℕ) → little_number 4 bytes ≡ word_of bytes
word_of-little bytes = omega arith

-- words that a bulk read gave, one by one
pub words_from_reads : (words bytes : List ℕ) → IsRead little_number 4 bytes words → words ≡ words_of (length words) bytes
words_from_reads [] bytes h = refl
words_from_reads (w ∷ words) bytes h =
    let first : w ≡ word_of bytes = h 0 (omega arith) ∙ word_of-little bytes in
    let rest : words ≡ words_of (length words) (drop 4 bytes) =
    words_from_reads words (drop 4 bytes) (λ k lt.
    h (suc k) (omega arith)
    ∙ ap (λ n. little_number 4 (drop n bytes)) (let e : 4 * suc k ≡ 4 + 4 * k = omega arith in e)
    ∙ ap (little_number 4) (sym (drop-drop (4 * k) 4 bytes))) in
    λ i. first i ∷ rest i

pub length-words_of : (n : ℕ) (bytes : List ℕ) → length (words_of n bytes) ≡ n
length-words_of zero bytes = refl
length-words_of (suc n) bytes = ap suc (length-words_of n (drop 4 bytes))

pub length-word_bytes : (words : List ℕ) → length (flat_map bytes_of words) ≡ 4 * length words
length-word_bytes [] = refl
length-word_bytes (w ∷ ws) = omega (arith, length-word_bytes ws)

pub words_of-fits : (n : ℕ) (bytes : List ℕ) → AreBytes bytes → AreWords (words_of n bytes)
words_of-fits zero bytes h = All-nil (λ w. w < 2 ^ 32)
words_of-fits (suc n) bytes h = All-cons (λ w. w < 2 ^ 32) _ _ (word_of-fits bytes h) (words_of-fits n (drop 4 bytes) (AreBytes-drop 4 bytes h))

-- the bytes of the words that were read of them
pub word_bytes_again : (n : ℕ) (bytes : List ℕ) → length bytes ≡ 4 * n → AreBytes bytes → flat_map bytes_of (words_of n bytes) ≡ bytes
word_bytes_again zero bytes len h = sym (nil_from_length bytes (omega arith))
word_bytes_again (suc n) bytes len h =
    let first : bytes_of (word_of bytes) ≡ take 4 bytes = bytes_again bytes (omega arith) h in
    let rest : flat_map bytes_of (words_of n (drop 4 bytes)) ≡ drop 4 bytes = word_bytes_again n (drop 4 bytes) (omega (arith, length-drop 4 bytes)) (AreBytes-drop 4 bytes h) in
    (λ i. first i ++ rest i) ∙ take-append-drop 4 bytes

-- words are read of their own bytes
pub words_again : (words rest : List ℕ) → AreWords words → words_of (length words) (flat_map bytes_of words ++ rest) ≡ words
words_again [] rest h = refl
words_again (w ∷ ws) rest h =
    let first : word_of (bytes_of w ++ (flat_map bytes_of ws ++ rest)) ≡ w = word_again w (flat_map bytes_of ws ++ rest) (All-head (λ w. w < 2 ^ 32) w ws h) in
    let others : words_of (length ws) (flat_map bytes_of ws ++ rest) ≡ ws = words_again ws rest (All-tail (λ w. w < 2 ^ 32) w ws h) in
    λ i. first i ∷ others i
