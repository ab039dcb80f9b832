-- Words, after Kane and Heinrich, chapter 2: whole numbers below 2^32, with bit fields, a signed reading and arithmetic
-- modulo 2^32.
use Rattle.std.specs.Prelude.{ℕ, ℤ, ◌+◌, ◌-◌, ◌*◌, ◌/◌, ◌%◌, ◌^◌, ◌*ℤ◌, int_div, int_rem, bit_and, bit_or, Bool, not, if◌then◌else◌, ◌==◌, nat_lt, ◌&&◌, List, [], ◌∷◌, slice_index}
use Rattle.std.specs.Int.{w32, w64, cast_signed, cast_unsigned}
use Rattle.r3k_word.specs.declared.arithmetic.HiLo.{HiLo}

-- the bits from high down to low, as a number
abbrev pub field_of : ℕ → ℕ → ℕ → ℕ
field_of high low word = word / 2 ^ low % 2 ^ (high + 1 - low)

-- the word with these bits in place of those from high down to low
abbrev pub with_field_of : ℕ → ℕ → ℕ → ℕ → ℕ
with_field_of high low word value = word / 2 ^ (high + 1) * 2 ^ (high + 1) + value * 2 ^ low + word % 2 ^ low

-- a word has a bit of a mask
abbrev pub has : (word mask : ℕ) → Bool
has word mask = not (bit_and word mask == 0)

-- a word with the bits of a mask taken from another: the others stay
abbrev pub merged : (mask old new : ℕ) → ℕ
merged mask old new = bit_or (bit_and old (2 ^ 32 - 1 - mask)) (bit_and new mask)

-- 1 for what holds, else 0
abbrev pub flag : Bool → ℕ
flag b = if b then 1 else 0

-- a number of this many bits as a word: its highest bit is copied upward
abbrev pub sign_extended : ℕ → ℕ → ℕ
sign_extended width value = if nat_lt value (2 ^ (width - 1)) then value else value + 2 ^ 32 - 2 ^ width

-- the signed reading of a word
abbrev pub signed : ℕ → ℤ
signed word = cast_signed w32 word

-- sum and difference modulo 2^32
abbrev pub sum_of : ℕ → ℕ → ℕ
sum_of a b = (a + b) % 2 ^ 32

abbrev pub difference_of : ℕ → ℕ → ℕ
difference_of a b = (a + 2 ^ 32 - b) % 2 ^ 32

-- a number of 64 bits as its high and its low word
abbrev pub halves : ℕ → HiLo
halves number = record { hi = number / 2 ^ 32; lo = number % 2 ^ 32 }

-- the product of two words, 64 bits
abbrev pub product_of : ℕ → ℕ → HiLo
product_of a b = halves (a * b)

-- the product of their signed readings, 64 bits
abbrev pub signed_product_of : ℕ → ℕ → HiLo
signed_product_of a b = halves (cast_unsigned w64 (signed a *ℤ signed b))

-- Remainder and quotient. By zero the remainder is the dividend and the quotient all ones (own).
abbrev pub division_of : ℕ → ℕ → HiLo
division_of a b = if b == 0 then record { hi = a; lo = 2 ^ 32 - 1 } else record { hi = a % b; lo = a / b }

-- The same of the signed readings, rounded toward zero. By zero the quotient is -1, or 1 for a negative dividend; the
-- most negative number by -1 is itself, with no remainder (own).
abbrev pub signed_division_of : ℕ → ℕ → HiLo
signed_division_of a b =
    if b == 0 then record { hi = a; lo = if nat_lt a (2 ^ 31) then 2 ^ 32 - 1 else 1 }
    else (if (a == 2 ^ 31) && (b == 2 ^ 32 - 1) then record { hi = 0; lo = 2 ^ 31 }
    else record { hi = cast_unsigned w32 (int_rem (signed a) (signed b)); lo = cast_unsigned w32 (int_div (signed a) (signed b)) })

-- a word's bytes, the lowest first (little-endian)
abbrev pub bytes_of : ℕ → List ℕ
bytes_of word = field_of 7 0 word ∷ field_of 15 8 word ∷ field_of 23 16 word ∷ field_of 31 24 word ∷ []

-- the word of four bytes
abbrev pub word_of : List ℕ → ℕ
word_of bytes = slice_index bytes 0 + slice_index bytes 1 * 2 ^ 8 + slice_index bytes 2 * 2 ^ 16 + slice_index bytes 3 * 2 ^ 24
