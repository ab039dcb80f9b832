-- The words of a raw ROM.
use Rattle.std.proofs.Common.{◌≡◌, ℕ, zero, suc, ◌+◌, ◌*◌, ◌/◌, ◌<◌, ◌≤◌, List, [], ◌∷◌, ◌++◌, length, drop, true, lit<, refl, ap, ◌∙◌, append_assoc, arith, inl, inr}
use Rattle.std.proofs.lemmas.Bool.{cases_lt, lt-ltb, le-leb, and_from, or_right}
use Rattle.std.proofs.lemmas.List.{append-nil, drop-append-le, get_or_append_left, get_or-append_right, length-append, length-drop, nil_from_length}
use Rattle.std.proofs.lemmas.List.Elements.{All-from_recursion}
use Rattle.byteorder.specs.Endian.{little_number}
use Rattle.r3k_word.specs.Word.{word_of}
use Rattle.r3k_word.specs.declared.layout.TheConstants.{ROM_START, ROM_BYTES}
use Rattle.r3k_image.specs.Boot.{rom_end, IsClockStart}
use Rattle.r3k_image.specs.Segments.{WordsAt, IsMadeOf, boot_of, may_stand, end_of}
use Rattle.r3k_word.proofs.Read.{AreBytes}
use Rattle.r3k_image.specs.Reading.{words_of, rom_words}
use Rattle.r3k_image.proofs.Words.{length-words_of, words_of-fits}

word_of-append : (xs ys : List ℕ) → 4 ≤ length xs → word_of (xs ++ ys) ≡ word_of xs
word_of-append xs ys le = rw (get_or_append_left xs ys 0 0 (omega arith), get_or_append_left xs ys 0 1 (omega arith), get_or_append_left xs ys 0 2 (omega arith), get_or_append_left xs ys 0 3 (omega arith)) refl

-- words that stand in two parts
words_of-append : (n m : ℕ) (xs ys : List ℕ) → length xs ≡ 4 * n → words_of (n + m) (xs ++ ys) ≡ words_of n xs ++ words_of m ys
words_of-append zero m xs ys len =
    let none : xs ≡ [] = nil_from_length xs (omega arith) in
    let count : 0 + m ≡ m = omega arith in
    λ i. words_of (count i) (none i ++ ys)
words_of-append (suc n) m xs ys len =
    let count : suc n + m ≡ suc (n + m) = omega arith in
    let first : word_of (xs ++ ys) ≡ word_of xs = word_of-append xs ys (omega arith) in
    let beyond : drop 4 (xs ++ ys) ≡ drop 4 xs ++ ys = drop-append-le 4 xs ys (omega arith) in
    let rest : words_of (n + m) (drop 4 (xs ++ ys)) ≡ words_of n (drop 4 xs) ++ words_of m ys =
    ap (words_of (n + m)) beyond ∙ words_of-append n m (drop 4 xs) ys (omega (arith, length-drop 4 xs)) in
    ap (λ k. words_of k (xs ++ ys)) count ∙ (λ i. first i ∷ rest i)

-- bytes of whole words
pub rom_words-whole : (n : ℕ) (bytes : List ℕ) → length bytes ≡ 4 * n → rom_words bytes ≡ words_of n bytes
rom_words-whole n bytes len =
    let count : (length bytes + 3) / 4 ≡ n + 0 = omega arith in
    ap (λ k. words_of k (bytes ++ (0 ∷ 0 ∷ 0 ∷ []))) count ∙ words_of-append n 0 bytes (0 ∷ 0 ∷ 0 ∷ []) len ∙ append-nil (words_of n bytes)

-- a last part of one to three bytes
pub rom_words-part : (n : ℕ) (whole part : List ℕ) → length whole ≡ 4 * n → 0 < length part → length part < 4
    → rom_words (whole ++ part) ≡ words_of n whole ++ (word_of (part ++ (0 ∷ 0 ∷ 0 ∷ [])) ∷ [])
rom_words-part n whole part len some few =
    let count : (length (whole ++ part) + 3) / 4 ≡ n + 1 = omega (arith, length-append whole part) in
    ap (λ k. words_of k (whole ++ part ++ (0 ∷ 0 ∷ 0 ∷ []))) count
    ∙ ap (words_of (n + 1)) (append_assoc whole part (0 ∷ 0 ∷ 0 ∷ []))
    ∙ words_of-append n 1 whole (part ++ (0 ∷ 0 ∷ 0 ∷ [])) len

-- the last part in a word of zero bytes
pub last_word : (part : List ℕ) → 0 < length part → length part < 4 → little_number 4 (part ++ drop (length part) (0 ∷ 0 ∷ 0 ∷ 0 ∷ [])) ≡ word_of (part ++ (0 ∷ 0 ∷ 0 ∷ []))
last_word [] some few = absurd (omega arith)
last_word (a ∷ []) some few = omega arith
last_word (a ∷ b ∷ []) some few = omega arith
last_word (a ∷ b ∷ c ∷ []) some few = omega arith
last_word (a ∷ b ∷ c ∷ d ∷ rest) some few = absurd (omega arith)

AreBytes-append : (xs ys : List ℕ) → AreBytes xs → AreBytes ys → AreBytes (xs ++ ys)
AreBytes-append xs ys h k i =
    elim (cases_lt i (length xs)) [
      | inl lt ↦ rw (get_or_append_left xs ys 0 i lt) (h i)
      | inr le ↦ rw (get_or-append_right xs ys (length xs) i 0 refl le) (k _)
    ]

zeros : AreBytes (0 ∷ 0 ∷ 0 ∷ [])
zeros zero = omega arith
zeros (suc zero) = omega arith
zeros (suc (suc zero)) = omega arith
zeros (suc (suc (suc i))) = omega arith

midnight : IsClockStart (0 ∷ 0 ∷ 0 ∷ 0 ∷ 0 ∷ 0 ∷ 1 ∷ 1 ∷ 1 ∷ 0 ∷ 32 ∷ 6 ∷ [])
midnight = record {
  count = refl;
  bytes = All-from_recursion (λ b. b < 256) (0 ∷ 0 ∷ 0 ∷ 0 ∷ 0 ∷ 0 ∷ 1 ∷ 1 ∷ 1 ∷ 0 ∷ 32 ∷ 6 ∷ []) (lit< tt, (lit< tt, (lit< tt, (lit< tt, (lit< tt, (lit< tt, (lit< tt, (lit< tt, (lit< tt, (lit< tt, (lit< tt, (lit< tt, tt))))))))))));
  register_a = omega arith;
  register_b = refl;
}

-- segments of which the image of a raw ROM is made
abbrev pub MakeRom : List WordsAt → Type 0
MakeRom ss = IsMadeOf ss (boot_of ss 16 1 (0 ∷ 0 ∷ 0 ∷ 0 ∷ 0 ∷ 0 ∷ 1 ∷ 1 ∷ 1 ∷ 0 ∷ 32 ∷ 6 ∷ []))

pub no_segment : MakeRom []
no_segment = record { stand = tt; words = refl; byte_time = (omega arith, omega arith); unit = (omega arith, omega arith); clock_start = midnight }

pub one_segment : (bytes : List ℕ) → AreBytes bytes → 0 < length bytes → length bytes ≤ ROM_BYTES → MakeRom (record { address = ROM_START; words = rom_words bytes } ∷ [])
one_segment bytes are some le =
    let n = length (rom_words bytes) in
    let count : n ≡ (length bytes + 3) / 4 = length-words_of ((length bytes + 3) / 4) (bytes ++ (0 ∷ 0 ∷ 0 ∷ [])) in
    let stands : may_stand 0 ROM_START n ≡ true =
    and_from _ _ (and_from _ _ (and_from _ _ refl (lt-ltb 0 n (omega arith))) refl)
    (or_right _ _ (and_from _ _ refl (le-leb (end_of ROM_START n) rom_end (omega arith)))) in
    record {
      stand = (stands, words_of-fits ((length bytes + 3) / 4) (bytes ++ (0 ∷ 0 ∷ 0 ∷ [])) (AreBytes-append bytes (0 ∷ 0 ∷ 0 ∷ []) are zeros), tt);
      words = refl;
      byte_time = (omega arith, omega arith);
      unit = (omega arith, omega arith);
      clock_start = midnight;
    }
