-- What is read of bytes is what was written, and what was written is read again.
use Rattle.std.proofs.Common.{◌≡◌, ℕ, ◌+◌, ◌*◌, ◌/◌, ◌%◌, ◌^◌, ◌<◌, ◌≤◌, Bool, true, false, cond, ltb, List, [], ◌∷◌, ◌++◌, length, get_or, take, drop, Result, Ok, Err, refl, sym, ap, subst, ◌∙◌, append_assoc, arith, inl, inr}
use Rattle.std.proofs.lemmas.Bool.{cases_lt, ltb-false, le-ltb}
use Rattle.std.proofs.lemmas.List.{take_at, drop_at, take-append-drop, length-append, length-take, get_or-drop, get_or-take, get_or_past}
use Rattle.r3k_word.specs.Word.{word_of, bytes_of}
use Rattle.r3k_word.specs.Reading.{◌>>=◌, bytes_at, number_at}

-- every item is a byte
abbrev pub AreBytes : List ℕ → Type 0
AreBytes bytes = (i : ℕ) → get_or bytes i 0 < 256

pub AreBytes-drop : (n : ℕ) (bytes : List ℕ) → AreBytes bytes → AreBytes (drop n bytes)
AreBytes-drop n bytes h i = rw get_or-drop (h (n + i))

AreBytes-take : (n : ℕ) (bytes : List ℕ) → AreBytes bytes → AreBytes (take n bytes)
AreBytes-take n bytes h i =
    elim (cases_lt i n) [
      | inl lt ↦ rw (get_or-take n bytes i 0 lt) (h i)
      | inr le ↦ rw (get_or_past (take n bytes) i 0 (omega (arith, length-take n bytes))) (omega arith)
    ]

pub word_of-fits : (bytes : List ℕ) → AreBytes bytes → word_of bytes < 2 ^ 32
word_of-fits bytes h = omega (arith, h 0, h 1, h 2, h 3)

-- a word is read of its own bytes
pub word_again : (w : ℕ) (rest : List ℕ) → w < 2 ^ 32 → word_of (bytes_of w ++ rest) ≡ w
word_again w rest h = omega arith

-- the bytes of the word that was read of them
pub bytes_again : (bytes : List ℕ) → 4 ≤ length bytes → AreBytes bytes → bytes_of (word_of bytes) ≡ take 4 bytes
bytes_again [] long h = absurd (omega arith)
bytes_again (a ∷ []) long h = absurd (omega arith)
bytes_again (a ∷ b ∷ []) long h = absurd (omega arith)
bytes_again (a ∷ b ∷ c ∷ []) long h = absurd (omega arith)
bytes_again (a ∷ b ∷ c ∷ d ∷ rest) long h =
    let ha : a < 256 = h 0 in
    let hb : b < 256 = h 1 in
    let hc : c < 256 = h 2 in
    let hd : d < 256 = h 3 in
    let w : ℕ = a + b * 2 ^ 8 + c * 2 ^ 16 + d * 2 ^ 24 in
    let ea : w / 2 ^ 0 % 2 ^ 8 ≡ a = omega arith in
    let eb : w / 2 ^ 8 % 2 ^ 8 ≡ b = omega arith in
    let ec : w / 2 ^ 16 % 2 ^ 8 ≡ c = omega arith in
    let ed : w / 2 ^ 24 % 2 ^ 8 ≡ d = omega arith in
    λ i. ea i ∷ eb i ∷ ec i ∷ ed i ∷ []

-- the value of a step that did not fail
pub bind_ok : {E A B : Type 0} (r : Result A E) (f : A → Result B E) (y : B) → (r >>= f) ≡ Ok y → (x : A) × (r ≡ Ok x) × (f x ≡ Ok y)
bind_ok (Ok x) f y e = (x, refl, e)
bind_ok (Err d) f y e = absurd cc

-- a test that did not fail
pub passes : {E A : Type 0} (b : Bool) (r : Result A E) (d : E) (y : A) → cond b r (Err d) ≡ Ok y → (b ≡ true) × (r ≡ Ok y)
passes true r d y e = (refl, e)
passes false r d y e = absurd cc

long_enough : {E A : Type 0} (b : Bool) (d : E) (x y : A) → cond b (Err d) (Ok x) ≡ Ok y → (b ≡ false) × (x ≡ y)
long_enough true d x y e = absurd cc
long_enough false d x y e = (refl, cc)

-- what a reader took from the front
pub record Takes (bytes text rest : List ℕ) : Type 0 where
  pub parts : bytes ≡ text ++ rest
  pub rest_bytes : AreBytes rest

pub Takes-then : (a x b y c : List ℕ) → Takes a x b → Takes b y c → Takes a (x ++ y) c
Takes-then a x b y c p q = record { parts = p.parts ∙ ap (λ (t : List ℕ). x ++ t) q.parts ∙ sym (append_assoc x y c); rest_bytes = q.rest_bytes }

pub bytes_take : {E : Type 0} (short : E) (count : ℕ) (bytes front rest : List ℕ) → AreBytes bytes → bytes_at short count bytes ≡ Ok (front, rest)
    → Takes bytes front rest × (length front ≡ count) × AreBytes front
bytes_take short count bytes front rest are e =
    let g = long_enough (ltb (length bytes) count) short (take count bytes, drop count bytes) (front, rest) e in
    let long : count ≤ length bytes = ltb-false _ _ g.0 in
    let whole : Takes bytes (take count bytes) (drop count bytes) = record { parts = sym (take-append-drop count bytes); rest_bytes = AreBytes-drop count bytes are } in
    let len : length (take count bytes) ≡ count = omega (arith, length-take count bytes) in
    subst (λ (p : List ℕ × List ℕ). Takes bytes p.0 p.1 × (length p.0 ≡ count) × AreBytes p.0) g.1 (whole, len, AreBytes-take count bytes are)

pub bytes_at_again : {E : Type 0} (short : E) (count : ℕ) (front rest : List ℕ) → length front ≡ count → bytes_at short count (front ++ rest) ≡ Ok (front, rest)
bytes_at_again short count front rest len =
    let long : ltb (length (front ++ rest)) count ≡ false = le-ltb _ _ (omega (arith, length-append front rest)) in
    rw (long, take_at front rest count len, drop_at front rest count len) refl

pub number_takes : {E : Type 0} (short : E) (bytes : List ℕ) (n : ℕ) (rest : List ℕ) → AreBytes bytes → number_at short bytes ≡ Ok (n, rest)
    → Takes bytes (bytes_of n) rest × (n < 2 ^ 32)
number_takes short bytes n rest are e =
    let g = long_enough (ltb (length bytes) 4) short (word_of bytes, drop 4 bytes) (n, rest) e in
    let long : 4 ≤ length bytes = ltb-false _ _ g.0 in
    let front : bytes_of (word_of bytes) ≡ take 4 bytes = bytes_again bytes long are in
    let whole : Takes bytes (bytes_of (word_of bytes)) (drop 4 bytes) =
    record { parts = sym (take-append-drop 4 bytes) ∙ ap (λ (t : List ℕ). t ++ drop 4 bytes) (sym front); rest_bytes = AreBytes-drop 4 bytes are } in
    subst (λ (p : ℕ × List ℕ). Takes bytes (bytes_of p.0) p.1 × (p.0 < 2 ^ 32)) g.1 (whole, word_of-fits bytes are)

pub number_at_again : {E : Type 0} (short : E) (n : ℕ) (rest : List ℕ) → n < 2 ^ 32 → number_at short (bytes_of n ++ rest) ≡ Ok (n, rest)
number_at_again short n rest lt =
    let long : ltb (length (bytes_of n ++ rest)) 4 ≡ false = le-ltb _ _ (omega arith) in
    let same : word_of (bytes_of n ++ rest) ≡ n = word_again n rest lt in
    ap (λ b. cond b (Err short) (Ok (word_of (bytes_of n ++ rest), rest))) long ∙ ap (λ (m : ℕ). Ok (m, rest)) same
