-- Parts of a text (own): the bytes of a class that it begins with, and what follows them.
use Rattle.std.specs.Prelude.{ℕ, ◌==◌, ◌&&◌, ◌||◌, not, Bool, List, [], ◌∷◌, nat_le, if◌then◌else◌}
use Rattle.asm_line.specs.declared.span.Class.{Class}
use Rattle.asm_line.specs.declared.span.Class.TheVariants.{Line, Code, Blank, Word}

-- a letter or _
abbrev pub is_letter : ℕ → Bool
is_letter b = (nat_le 97 b && nat_le b 122) || (nat_le 65 b && nat_le b 90) || (b == 95)

-- a decimal digit
abbrev pub is_decimal : ℕ → Bool
is_decimal b = nat_le 48 b && nat_le b 57

-- a line has no line feed, the code before a comment no #; a blank is a space or a tab; a word has letters, digits and _
unfoldable pub is_in : Class → ℕ → Bool
is_in Line b = not (b == 10)
is_in Code b = not (b == 35)
is_in Blank b = (b == 32) || (b == 9)
is_in Word b = is_letter b || is_decimal b

-- the longest front of a text that has only bytes of a class
unfoldable pub front_of : Class → List ℕ → List ℕ
front_of class [] = []
front_of class (b ∷ bs) = if is_in class b then b ∷ front_of class bs else []

-- what stands after that front
unfoldable pub rest_of : Class → List ℕ → List ℕ
rest_of class [] = []
rest_of class (b ∷ bs) = if is_in class b then rest_of class bs else b ∷ bs
