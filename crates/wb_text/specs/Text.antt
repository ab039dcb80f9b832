-- How replies print numbers (own): a word as 0x and eight lower-case hexadecimal digits, a byte as
-- two, other numbers in decimal.
use Rattle.std.specs.Prelude.{ℕ, ◌+◌, ◌/◌, ◌%◌, ◌^◌, Bool, true, false, List, [], ◌∷◌, ◌++◌, map, codes}
use Rattle.std.specs.Fmt.{decimal, digit_glyph}

-- the most bytes of a reply
abbrev pub text_bytes : ℕ
text_bytes = 16384

-- the hexadecimal digit of a word at a place, counted from the right
abbrev pub hexadecimal_digit : ℕ → ℕ → ℕ
hexadecimal_digit word place = digit_glyph false (word / 16 ^ place % 16)

-- a word: 0x and eight lower-case digits
unfoldable pub word_text : ℕ → List ℕ
word_text word = codes "0x" ++ map (hexadecimal_digit word) (7 ∷ 6 ∷ 5 ∷ 4 ∷ 3 ∷ 2 ∷ 1 ∷ 0 ∷ [])

-- a byte: two lower-case digits
unfoldable pub byte_text : ℕ → List ℕ
byte_text byte = map (hexadecimal_digit byte) (1 ∷ 0 ∷ [])

-- a register: r and its number
abbrev pub register_text : ℕ → List ℕ
register_text register = codes "r" ++ decimal register

-- a register and its value
abbrev pub value_text : ℕ → ℕ → List ℕ
value_text register value = register_text register ++ codes " " ++ word_text value

-- a flag as a digit
abbrev pub flag_text : Bool → List ℕ
flag_text true = codes "1"
flag_text false = codes "0"

-- a line and its line feed
abbrev pub line : List ℕ → List ℕ
line text = text ++ 10 ∷ []

-- a line for each item, with a number that goes on from one
unfoldable pub numbered : {A : Type 0} → (ℕ → A → List ℕ) → ℕ → List A → List ℕ
numbered text number [] = []
numbered text number (item ∷ items) = line (text number item) ++ numbered text ((number + 1) % 2 ^ 64) items
