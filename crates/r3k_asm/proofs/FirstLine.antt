-- A text begins with its first line.
use Rattle.std.proofs.Common.{◌≡◌, ℕ, suc, ◌<◌, ◌≤◌, Bool, true, false, cond, not, List, [], ◌∷◌, length, take, drop, ◌-◌, refl, sym, ap, ◌∙◌, arith, inl, inr}
use Rattle.std.specs.Prelude.{◌==◌}
use Rattle.std.specs.List.{slice_split, onto_first}
use Rattle.std.specs.Str.Lines.{lines, lines_of_parts, strip_carriage_return}
use Rattle.std.proofs.lemmas.List.{nil_from_length, take_all, length-drop}
use Rattle.std.proofs.lemmas.List.Splits.{slice_split-cons_yes, slice_split-cons_no}
use Rattle.std.proofs.lemmas.Bool.{cases_Bool, ne_eqb}
use Rattle.asm_line.specs.declared.span.Class.TheVariants.{Line}
use Rattle.asm_line.specs.Span.{is_in, front_of, rest_of}

abbrev pub is_feed : ℕ → Bool
is_feed b = b == 10

in_line : (b : ℕ) → is_in Line b ≡ not (is_feed b)
unfolding is_in
in_line b = refl

-- the parts of a text: the first line, and those of what follows its line feed
abbrev parts_by : List ℕ → List ℕ → List (List ℕ)
parts_by front [] = front ∷ []
parts_by front (b ∷ rest) = front ∷ slice_split is_feed rest

onto_parts : (b : ℕ) (front rest : List ℕ) → onto_first b (parts_by front rest) ≡ parts_by (b ∷ front) rest
onto_parts b front [] = refl
onto_parts b front (x ∷ rest) = refl

first_part : (text : List ℕ) → slice_split is_feed text ≡ parts_by (front_of Line text) (rest_of Line text)
unfolding front_of rest_of
first_part [] = refl
first_part (b ∷ bs) =
    elim (cases_Bool (is_feed b)) [
      | inl feed ↦
          let out : is_in Line b ≡ false = in_line b ∙ ap not feed in
          slice_split-cons_yes is_feed b bs feed
          ∙ sym (λ i. parts_by (cond (out i) (b ∷ front_of Line bs) []) (cond (out i) (rest_of Line bs) (b ∷ bs)))
      | inr other ↦
          let within : is_in Line b ≡ true = in_line b ∙ ap not other in
          slice_split-cons_no is_feed b bs other
          ∙ ap (onto_first b) (first_part bs)
          ∙ onto_parts b (front_of Line bs) (rest_of Line bs)
          ∙ sym (λ i. parts_by (cond (within i) (b ∷ front_of Line bs) []) (cond (within i) (rest_of Line bs) (b ∷ bs)))
    ]

-- what follows the first line is no longer than the text, and the text is not empty where the line isn't
pub rest-le : (text : List ℕ) → length (rest_of Line text) ≤ length text
unfolding rest_of
rest-le [] = omega arith
rest-le (b ∷ bs) =
    elim (is_in Line b) as (λ t. length (cond t (rest_of Line bs) (b ∷ bs)) ≤ suc (length bs)) [ true ↦ omega (arith, rest-le bs) | false ↦ omega arith ]

front_some : (text : List ℕ) → 0 < length text → length (rest_of Line text) ≡ 0 → 0 < length (front_of Line text)
unfolding front_of rest_of
front_some [] some none = absurd (omega arith)
front_some (b ∷ bs) some none = by_test (is_in Line b) none
  where
    by_test : (t : Bool) → length (cond t (rest_of Line bs) (b ∷ bs)) ≡ 0 → 0 < length (cond t (b ∷ front_of Line bs) [])
    by_test true e = omega arith
    by_test false e = absurd (omega arith)

one_line : (front : List ℕ) → 0 < length front → lines_of_parts (front ∷ []) ≡ front ∷ []
one_line [] some = absurd (omega arith)
one_line (b ∷ front) some = ap (λ t. cond t [] ((b ∷ front) ∷ [])) (ne_eqb (length (b ∷ front)) 0 (λ e. omega arith))

-- the last line has no line feed
pub last_line : (text : List ℕ) → 0 < length text → length (rest_of Line text) ≡ 0 → lines text ≡ front_of Line text ∷ lines (rest_of Line text)
last_line text some none =
    let empty = nil_from_length (rest_of Line text) none in
    ap lines_of_parts (first_part text ∙ ap (parts_by (front_of Line text)) empty)
    ∙ one_line (front_of Line text) (front_some text some none)
    ∙ ap (λ (rest : List ℕ). front_of Line text ∷ lines rest) (sym empty)

more_parts : (front rest : List ℕ) → (more : List (List ℕ)) × (parts_by front rest ≡ front ∷ more)
more_parts front [] = ([], refl)
more_parts front (b ∷ rest) = (slice_split is_feed rest, refl)

split_some : (rest : List ℕ) → (more : List (List ℕ)) × (slice_split is_feed rest ≡ front_of Line rest ∷ more)
split_some rest = let m = more_parts (front_of Line rest) (rest_of Line rest) in (m.0, first_part rest ∙ m.1)

-- another line has one, and loses a carriage return before it
pub next_line : (text : List ℕ) → 0 < length (rest_of Line text) → lines text ≡ strip_carriage_return (front_of Line text) ∷ lines (drop 1 (rest_of Line text))
next_line text some = by_rest (rest_of Line text) some (first_part text)
  where
    by_parts : (front rest : List ℕ) (y : List ℕ) (more : List (List ℕ)) → slice_split is_feed rest ≡ y ∷ more
        → lines_of_parts (front ∷ slice_split is_feed rest) ≡ strip_carriage_return front ∷ lines rest
    by_parts front rest y more e =
        ap (λ (ps : List (List ℕ)). lines_of_parts (front ∷ ps)) e ∙ ap (λ (ps : List (List ℕ)). strip_carriage_return front ∷ lines_of_parts ps) (sym e)

    by_rest : (b : List ℕ) → 0 < length b → slice_split is_feed text ≡ parts_by (front_of Line text) b
        → lines text ≡ strip_carriage_return (front_of Line text) ∷ lines (drop 1 b)
    by_rest [] lt e = absurd (omega arith)
    by_rest (x ∷ rest) lt e = let s = split_some rest in ap lines_of_parts e ∙ by_parts (front_of Line text) rest (front_of Line rest) s.0 s.1

-- the rest as the code has it
pub rest_is : (text rest : List ℕ) → rest ≡ rest_of Line text → take (length rest - 1) (drop 1 rest) ≡ drop 1 (rest_of Line text)
rest_is text rest is = take_all (length rest - 1) (drop 1 rest) (omega (arith, length-drop 1 rest)) ∙ ap (drop 1) is
