-- The first row that passes a test.
use Rattle.std.proofs.Common.{◌≡◌, ℕ, zero, suc, ◌+◌, ◌<◌, ◌≤◌, Bool, true, false, cond, List, [], ◌∷◌, length, get_or, take, map, Option, Some, None, refl, sym, ap, ◌∙◌, arith}
use Rattle.std.specs.Prelude.{find}
use Rattle.std.specs.Str.{bytes_eq}
use Rattle.std.proofs.lemmas.List.{take_all, length-map}
use Rattle.r3k_table.specs.Table.{Instruction, instructions}
use Rattle.r3k_table.specs.declared.row.Row.{Row}
use Rattle.r3k_table.specs.View.{view}
use Rattle.asm_line.specs.Statement.{row_named}

-- the first row with a name
abbrev pub row_in : List Row → List ℕ → Option Instruction
row_in rows name = find (λ r. bytes_eq r.name name) (map view rows)

hidden : (b : Bool) (x : Instruction) (rest : Option Instruction) → cond b (Some x) rest ≡ None → (b ≡ false) × (rest ≡ None)
hidden true x rest e = absurd cc
hidden false x rest e = (refl, e)

pub none_more : (rows : List Row) (name : List ℕ) (i : ℕ) (d : Row) → i < length rows → bytes_eq (get_or rows i d).name.now name ≡ false
    → row_in (take i rows) name ≡ None → row_in (take (i + 1) rows) name ≡ None
none_more [] name i d lt fails none = absurd (omega arith)
none_more (r ∷ rows) name zero d lt fails none = ap (λ b. cond b (Some (view r)) None) fails
none_more (r ∷ rows) name (suc i) d lt fails none =
    let h = hidden (bytes_eq r.name.now name) (view r) (row_in (take i rows) name) none in
    let e : suc i + 1 ≡ suc (i + 1) = omega arith in
    ap (λ n. row_in (take n (r ∷ rows)) name) e
    ∙ ap (λ b. cond b (Some (view r)) (row_in (take (i + 1) rows) name)) h.0 ∙ none_more rows name i d (omega arith) fails h.1

found_at : (rows : List Row) (name : List ℕ) (i : ℕ) (d : Row) → i < length rows → bytes_eq (get_or rows i d).name.now name ≡ true
    → row_in (take i rows) name ≡ None → row_in rows name ≡ Some (view (get_or rows i d))
found_at [] name i d lt passes none = absurd (omega arith)
found_at (r ∷ rows) name zero d lt passes none = ap (λ b. cond b (Some (view r)) (row_in rows name)) passes
found_at (r ∷ rows) name (suc i) d lt passes none =
    let h = hidden (bytes_eq r.name.now name) (view r) (row_in (take i rows) name) none in
    ap (λ b. cond b (Some (view r)) (row_in rows name)) h.0 ∙ found_at rows name i d (omega arith) passes h.1

in_table : (rows : List Row) (name : List ℕ) → map view rows ≡ instructions → row_in rows name ≡ row_named name
unfolding row_named
in_table rows name table = ap (λ is. find (λ r. bytes_eq r.name name) is) table

pub named_at : (rows : List Row) (name : List ℕ) (i : ℕ) (d : Row) → map view rows ≡ instructions → i < length rows → bytes_eq (get_or rows i d).name.now name ≡ true
    → row_in (take i rows) name ≡ None → Some (view (get_or rows i d)) ≡ row_named name
named_at rows name i d table lt passes none = sym (found_at rows name i d lt passes none) ∙ in_table rows name table

pub named_nowhere : (rows : List Row) (name : List ℕ) (i : ℕ) → map view rows ≡ instructions → length rows ≤ i → row_in (take i rows) name ≡ None → None ≡ row_named name
named_nowhere rows name i table le none = sym none ∙ ap (λ rs. row_in rs name) (take_all i rows le) ∙ in_table rows name table

-- the table has 65 rows
pub rows_len : (rows : List Row) → map view rows ≡ instructions → length rows ≡ 65
rows_len rows table = sym (length-map rows view) ∙ ap length table
