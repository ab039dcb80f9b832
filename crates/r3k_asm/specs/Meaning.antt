-- What a source means (own): the image that its lines make in two passes, or the first fault. The second pass is made only
-- where the first has no fault.
use Rattle.std.specs.Prelude.{◌≡◌, ◌⊎◌, ℕ, ◌+◌, List, [], ◌∷◌, Result, Ok, Err, unwrap_or}
use Rattle.std.specs.Ordering.{nat_cmp}
use Rattle.std.specs.FinMap as map
use Rattle.std.specs.Str.Lines.{lines}
use Rattle.r3k_image.specs.Boot.{Boot, plain_byte_time, plain_clock_start, plain_unit}
use Rattle.asm_line.specs.declared.kind.AsmKind.{AsmKind}
use Rattle.asm_line.specs.declared.statement.Statement.{Statement}
use Rattle.asm_line.specs.declared.statement.Statement.TheVariants.{Label, Word}
use Rattle.asm_line.specs.Statement.{statement_of}
use Rattle.r3k_asm.specs.declared.fault.AsmFault.{AsmFault}
use Rattle.r3k_asm.specs.declared.fault.AsmFault.TheVariants.{Memory, Bad}
use Rattle.r3k_asm.specs.declared.reference.Reference.{Reference}
use Rattle.r3k_asm.specs.Reference.{LabelMap, word_of_reference}
use Rattle.r3k_asm.specs.Source.{State, started, read}

-- what a line gives, and then what follows
abbrev pub at_line : {A B : Type 0} → ℕ → Result A AsmKind → (A → Result B AsmFault) → Result B AsmFault
at_line line (Ok x) f = f x
at_line line (Err kind) f = Err (Bad line kind)

-- one pass after the other, up to the first fault
infixl 10 ◌>>=◌
abbrev pub ◌>>=◌ : {A B : Type 0} → Result A AsmFault → (A → Result B AsmFault) → Result B AsmFault
(Ok x) >>= f = f x
(Err fault) >>= f = Err fault

-- the first pass over lines in order, the first of which has this number, or the first fault and its line
unfoldable pub passed : ℕ → State → List (List ℕ) → Result State AsmFault
passed line s [] = Ok s
passed line s (l ∷ ls) = at_line line (read line s l) (λ next. passed (line + 1) next ls)

-- what a line says sets a word or a label
abbrev pub SetsOne : Result Statement AsmKind → Type 0
SetsOne (Ok (Label name)) = Unit {0}
SetsOne (Ok (Word word target)) = Unit {0}
SetsOne said = ⊥

-- No line has a fault before one that sets a word or a label, or before the end, if none sets one: memory is asked for there at
-- the earliest.
unfoldable pub HasNoFaultBefore : ℕ → State → List (List ℕ) → Type 0
HasNoFaultBefore line s [] = Unit {0}
HasNoFaultBefore line s (l ∷ ls) = SetsOne (statement_of l) ⊎ ((next : State) × (read line s l ≡ Ok next) × HasNoFaultBefore (line + 1) next ls)

-- the second pass: each word gets the part that its target gives, or the first fault and its line
unfoldable pub linked : LabelMap → map.FinMap nat_cmp ℕ → List Reference → Result (map.FinMap nat_cmp ℕ) AsmFault
linked labels words [] = Ok words
linked labels words (r ∷ rs) = at_line r.line (word_of_reference labels r) (λ word. linked labels (map.insert words r.address word) rs)

-- the image of a source, by both passes: where it does not set the constants, they are those of a raw ROM
unfoldable pub image_of : List ℕ → Result Boot AsmFault
image_of text = do
  s ← passed 1 started (lines text)
  words ← linked s.labels s.words s.references
  Ok (record {
    words = words;
    byte_time = unwrap_or s.byte_time plain_byte_time;
    unit = unwrap_or s.unit plain_unit;
    clock_start = unwrap_or s.clock plain_clock_start;
  })

-- a call fails with this fault and its line, or for want of memory
abbrev pub FailsOrLacks : {Y : Type 0} → AsmFault → Result Y AsmFault → Type 0
FailsOrLacks Memory answer = Unit {0}
FailsOrLacks (Bad line kind) answer = answer ≡ Err (Bad line kind)

-- a call returned the image, or the fault and its line, that the definition gives, or memory ran out
abbrev pub Answers : {X Y : Type 0} → (X → Y) → Result X AsmFault → Result Y AsmFault → Type 0
Answers view (Ok x) answer = answer ≡ Ok (view x)
Answers view (Err fault) answer = FailsOrLacks fault answer
