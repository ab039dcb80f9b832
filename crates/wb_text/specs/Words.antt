-- The words of a script line (own).
use Rattle.std.specs.Prelude.{ℕ, ◌==◌, ◌||◌, Bool, List, filter, length, nat_lt, nat_eq, codes}
use Rattle.std.specs.List.{slice_split, starts_with}

-- a space or a tab
abbrev pub is_blank : ℕ → Bool
is_blank byte = (byte == 32) || (byte == 9)

-- the words of a line: what stands between blanks and isn't empty
unfoldable pub words_of : List ℕ → List (List ℕ)
words_of line = filter (λ word. nat_lt 0 (length word)) (slice_split is_blank line)

-- the first word of a comment begins with #
abbrev pub begins_comment : List ℕ → Bool
begins_comment word = starts_with nat_eq word (codes "#")
