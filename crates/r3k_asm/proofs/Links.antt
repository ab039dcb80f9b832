-- One more line or reference.
use Rattle.std.proofs.Common.{◌≡◌, ℕ, zero, suc, ◌+◌, ◌<◌, ◌≤◌, List, [], ◌∷◌, length, get_or, drop, Result, Ok, Err, inl, inr, refl, sym, ap, subst, ◌∙◌, arith}
use Rattle.std.specs.Prelude.{unwrap_or}
use Rattle.std.specs.Ordering.{nat_cmp}
use Rattle.r3k_image.specs.Boot.{Boot, plain_byte_time, plain_clock_start, plain_unit}
use Rattle.std.specs.FinMap as map
use Rattle.std.specs.Str.Lines.{lines}
use Rattle.std.proofs.lemmas.List.{nil_from_length}
use Rattle.asm_line.specs.declared.kind.AsmKind.{AsmKind}
use Rattle.r3k_asm.specs.declared.fault.AsmFault.{AsmFault}
use Rattle.r3k_asm.specs.declared.fault.AsmFault.TheVariants.{Memory, Bad}
use Rattle.r3k_asm.specs.declared.reference.Reference.{Reference}
use Rattle.r3k_asm.specs.Reference.{LabelMap, word_of_reference}
use Rattle.r3k_asm.specs.Source.{State, started, read, FailsOrLacks as FailsAt}
use Rattle.asm_line.specs.Statement.{statement_of}
use Rattle.r3k_asm.specs.Meaning.{HasNoFaultBefore, SetsOne, at_line, passed, linked, FailsOrLacks, image_of, ◌>>=◌}

pub line_more : (line : ℕ) (s next : State) (text front rest : List ℕ) → lines text ≡ front ∷ lines rest → read line s front ≡ Ok next
    → passed (line + 1) next (lines rest) ≡ passed line s (lines text)
unfolding passed
line_more line s next text front rest e is =
    sym (ap (passed line s) e ∙ ap (λ (r : Result State AsmKind). at_line line r (λ t. passed (line + 1) t (lines rest))) is)

pub line_fails : (line : ℕ) (s : State) (text front rest : List ℕ) (fault : AsmFault) → lines text ≡ front ∷ lines rest → FailsAt line fault (read line s front)
    → FailsOrLacks fault (passed line s (lines text))
unfolding passed
line_fails line s text front rest Memory e h = tt
line_fails line s text front rest (Bad at kind) e h =
    ap (passed line s) e ∙ ap (λ (r : Result State AsmKind). at_line line r (λ t. passed (line + 1) t (lines rest))) h.1
    ∙ ap (λ (n : ℕ). Err (Bad n kind)) (sym h.0)

pub line_none : (line : ℕ) (s : State) (rest : List ℕ) → length rest ≡ 0 → passed line s (lines rest) ≡ Ok s
unfolding passed
line_none line s rest none = ap (λ (r : List ℕ). passed line s (lines r)) (nil_from_length rest none)

-- lines without a fault before what asks for memory, one more at their front
pub asks_first : (line : ℕ) (s : State) (text front rest : List ℕ) → lines text ≡ front ∷ lines rest → SetsOne (statement_of front) → HasNoFaultBefore line s (lines text)
unfolding HasNoFaultBefore
asks_first line s text front rest e sets = subst (λ (ls : List (List ℕ)). HasNoFaultBefore line s ls) (sym e) (inl sets)

pub asks_later : (line : ℕ) (s next : State) (text front rest : List ℕ) → lines text ≡ front ∷ lines rest → read line s front ≡ Ok next
    → HasNoFaultBefore (line + 1) next (lines rest) → HasNoFaultBefore line s (lines text)
unfolding HasNoFaultBefore
asks_later line s next text front rest e is later = subst (λ (ls : List (List ℕ)). HasNoFaultBefore line s ls) (sym e) (inr (next, is, later))

pub asks_at_end : (line : ℕ) (s : State) (rest : List ℕ) → length rest ≡ 0 → HasNoFaultBefore line s (lines rest)
unfolding HasNoFaultBefore
asks_at_end line s rest none = subst (λ (r : List ℕ). HasNoFaultBefore line s (lines r)) (sym (nil_from_length rest none)) tt

pub fails_same : (fault : AsmFault) (a b : Result State AsmFault) → a ≡ b → FailsOrLacks fault a → FailsOrLacks fault b
fails_same Memory a b e h = tt
fails_same (Bad line kind) a b e h = sym e ∙ h

-- a reference in its place, and the others after it
at_place : (rs : List Reference) (i : ℕ) (r : Reference) → i < length rs → r ≡ get_or rs i r → drop i rs ≡ r ∷ drop (i + 1) rs
at_place [] i r lt is = absurd (omega arith)
at_place (q ∷ qs) zero r lt is = ap (λ (x : Reference). x ∷ qs) (sym is)
at_place (q ∷ qs) (suc i) r lt is =
    let e : suc i + 1 ≡ suc (i + 1) = omega arith in
    at_place qs i r (omega arith) is ∙ ap (λ (n : ℕ). r ∷ drop n (q ∷ qs)) (sym e)

pub link_more : (labels : LabelMap) (words : map.FinMap nat_cmp ℕ) (rs : List Reference) (i : ℕ) (r : Reference) (word : ℕ) → i < length rs → r ≡ get_or rs i r
    → word_of_reference labels r ≡ Ok word → linked labels (map.insert words r.address word) (drop (i + 1) rs) ≡ linked labels words (drop i rs)
unfolding linked
link_more labels words rs i r word lt is e =
    sym (ap (linked labels words) (at_place rs i r lt is)
    ∙ ap (λ (w : Result ℕ AsmKind). at_line r.line w (λ x. linked labels (map.insert words r.address x) (drop (i + 1) rs))) e)

pub link_fails : (labels : LabelMap) (words : map.FinMap nat_cmp ℕ) (rs : List Reference) (i : ℕ) (r : Reference) (kind : AsmKind) → i < length rs → r ≡ get_or rs i r
    → word_of_reference labels r ≡ Err kind → linked labels words (drop i rs) ≡ Err (Bad r.line kind)
unfolding linked
link_fails labels words rs i r kind lt is e =
    ap (linked labels words) (at_place rs i r lt is)
    ∙ ap (λ (w : Result ℕ AsmKind). at_line r.line w (λ x. linked labels (map.insert words r.address x) (drop (i + 1) rs))) e

past : (rs : List Reference) (i : ℕ) → length rs ≤ i → drop i rs ≡ []
past [] zero le = refl
past [] (suc i) le = refl
past (r ∷ rs) zero le = absurd (omega arith)
past (r ∷ rs) (suc i) le = past rs i (omega arith)

pub link_none : (labels : LabelMap) (words : map.FinMap nat_cmp ℕ) (rs : List Reference) (i : ℕ) → length rs ≤ i → linked labels words (drop i rs) ≡ Ok words
unfolding linked
link_none labels words rs i le = ap (linked labels words) (past rs i le)

-- ---- both passes

abbrev pub finished : State → map.FinMap nat_cmp ℕ → Boot
finished s words = record { words = words; byte_time = unwrap_or s.byte_time plain_byte_time; unit = unwrap_or s.unit plain_unit; clock_start = unwrap_or s.clock plain_clock_start }

abbrev second : State → Result Boot AsmFault
second s = linked s.labels s.words s.references >>= λ words. Ok (finished s words)

by_first : (text : List ℕ) (r : Result State AsmFault) → passed 1 started (lines text) ≡ r → image_of text ≡ (r >>= second)
unfolding image_of
by_first text r e = ap (λ (x : Result State AsmFault). x >>= second) e

pub first_fails : (text : List ℕ) (fault : AsmFault) → FailsOrLacks fault (passed 1 started (lines text)) → FailsOrLacks fault (image_of text)
first_fails text Memory h = tt
first_fails text (Bad line kind) h = by_first text (Err (Bad line kind)) h

pub second_fails : (text : List ℕ) (s : State) (fault : AsmFault) → passed 1 started (lines text) ≡ Ok s → FailsOrLacks fault (linked s.labels s.words s.references) → FailsOrLacks fault (image_of text)
second_fails text s Memory e h = tt
second_fails text s (Bad line kind) e h = by_first text (Ok s) e ∙ ap (λ (x : Result (map.FinMap nat_cmp ℕ) AsmFault). x >>= λ words. Ok (finished s words)) h

pub both_pass : (text : List ℕ) (s : State) (words : map.FinMap nat_cmp ℕ) → passed 1 started (lines text) ≡ Ok s → linked s.labels s.words s.references ≡ Ok words
    → image_of text ≡ Ok (finished s words)
both_pass text s words e h = by_first text (Ok s) e ∙ ap (λ (x : Result (map.FinMap nat_cmp ℕ) AsmFault). x >>= λ w. Ok (finished s w)) h
