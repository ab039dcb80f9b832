-- The first pass over a source (own): what the lines so far say.
use Rattle.std.specs.Prelude.{◌≡◌, ℕ, List, [], ◌∷◌, ◌++◌, Option, Some, None, is_some, Result, Ok, Err, if◌then◌else◌}
use Rattle.std.specs.Ordering.{nat_cmp}
use Rattle.std.specs.FinMap as map
use Rattle.r3k_word.specs.declared.layout.TheConstants.{MAX_RAM_PAGES, ROM_START}
use Rattle.r3k_word.specs.Word.{sum_of}
use Rattle.r3k_word.specs.Layout.{place_of_word}
use Rattle.asm_line.specs.declared.kind.AsmKind.{AsmKind}
use Rattle.asm_line.specs.declared.kind.AsmKind.TheVariants as kind
use Rattle.asm_line.specs.declared.target.Target.{Target}
use Rattle.asm_line.specs.declared.statement.Statement.{Statement}
use Rattle.asm_line.specs.declared.statement.Statement.TheVariants.{Empty, Label, Origin, Word, ByteTime, Unit as UnitOf, Clock}
use Rattle.asm_line.specs.Statement.{◌>>=◌, statement_of}
use Rattle.r3k_asm.specs.declared.fault.AsmFault.{AsmFault}
use Rattle.r3k_asm.specs.declared.fault.AsmFault.TheVariants.{Memory, Bad}
use Rattle.r3k_asm.specs.declared.reference.Reference.{Reference}
use Rattle.r3k_asm.specs.declared.source.Source.{Source}
use Rattle.r3k_asm.specs.Reference.{LabelMap}

-- what the lines so far say: the place, the set words (one with a target lacks the part of it), the labels, and the
-- constants
pub record State : Type 0 where
  pub place : ℕ
  pub words : map.FinMap nat_cmp ℕ
  pub labels : LabelMap
  pub references : List Reference
  pub byte_time : Option ℕ
  pub unit : Option ℕ
  pub clock : Option (List ℕ)

-- what the first pass of the code holds, as the definition has it
abbrev pub seen : Source → State
seen s = record { place = s.place; words = s.words; labels = s.labels; references = s.references.items; byte_time = s.byte_time; unit = s.unit; clock = s.clock }

-- the same before the first line: the place is the start of ROM
abbrev pub started : State
started = record { place = ROM_START; words = map.empty; labels = map.empty; references = []; byte_time = None; unit = None; clock = None }

-- the words that lack the part of a target, and one more if the new word has a target
abbrev pub with_reference : ℕ → ℕ → ℕ → Option Target → List Reference → List Reference
with_reference line address word None references = references
with_reference line address word (Some target) references = references ++ record { line = line; address = address; word = word; target = target } ∷ []

-- A word takes the place, which then grows by 4. A place outside of RAM and ROM is Place, and one that is set already Overlap.
unfoldable pub with_word : ℕ → State → ℕ → Option Target → Result State AsmKind
with_word line s word target =
    if is_some (place_of_word MAX_RAM_PAGES s.place)
    then (if map.contains_key s.words s.place then Err kind.Overlap
    else Ok (record s {
      place = sum_of s.place 4;
      words = map.insert s.words s.place word;
      references = with_reference line s.place word target s.references;
    }))
    else Err kind.Place

-- what the lines say after one more statement; a label or a constant that was there before is Twice
unfoldable pub added : ℕ → State → Statement → Result State AsmKind
added line s Empty = Ok s
added line s (Label name) = if map.contains_key s.labels name then Err kind.Twice else Ok (record s { labels = map.insert s.labels name s.place })
added line s (Origin address) = Ok (record s { place = address })
added line s (Word word target) = with_word line s word target
added line s (ByteTime n) = if is_some s.byte_time then Err kind.Twice else Ok (record s { byte_time = Some n })
added line s (UnitOf n) = if is_some s.unit then Err kind.Twice else Ok (record s { unit = Some n })
added line s (Clock registers) = if is_some s.clock then Err kind.Twice else Ok (record s { clock = Some registers })

-- the same after one more line
unfoldable pub read : ℕ → State → List ℕ → Result State AsmKind
read line s text = statement_of text >>= λ statement. added line s statement

-- a fault of a line is what reading it gives, and want of memory may come at any line
abbrev pub FailsOrLacks : {Y : Type 0} → ℕ → AsmFault → Result Y AsmKind → Type 0
FailsOrLacks line Memory read = Unit {0}
FailsOrLacks line (Bad at kind) read = (at ≡ line) × (read ≡ Err kind)

-- what a line gives
abbrev pub ReadsOrLacks : {X Y : Type 0} → ℕ → Y → Result X AsmFault → Result Y AsmKind → Type 0
ReadsOrLacks line new (Ok _) read = read ≡ Ok new
ReadsOrLacks line new (Err fault) read = FailsOrLacks line fault read
