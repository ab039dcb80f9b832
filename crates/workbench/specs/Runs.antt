-- How a run goes (own): which calls its reader and its writer get, by its result.
use Rattle.std.specs.Prelude.{◌≡◌, ◌⊎◌, ℕ, List, [], ◌∷◌, ◌++◌, Result, Ok, Err, length}
use Rattle.wb_io.specs.Calls.{Call, Each, Fails, Moment, MovesNone, MovesSome, TakesAll, TakesFront, bytes_moved}
use Rattle.input_log.specs.Event.{LogEvent}
use Rattle.r3k_image.specs.Boot.{Boot, FitsRam}
use Rattle.r3k_image.specs.declared.fault.ImageKind.TheVariants.{Pages}
use Rattle.wb_options.specs.declared.fault.RunFault.{RunFault}
use Rattle.wb_options.specs.declared.fault.RunFault.TheVariants.{Memory, BadImage, ReadFault, WriteFault}
use Rattle.workbench.specs.Script.{IsText, Quits, QuitsAnyway, complete_lines, lines_of}
use Rattle.wb_session.specs.Session.{Triple}

-- the most reads of a run, 2^20, those before its script among them
abbrev pub max_reads : ℕ
max_reads = 1048576

-- a read of a script: it was asked for a piece of 4096 bytes and gave some
abbrev pub IsPiece : Call → Type 0
IsPiece call = (call.asked ≡ 4096) × MovesSome call

-- pieces, and then one more read for which this holds
pub record PiecesThen (P : Call → Type 0) (reads : List Call) : Type 0 where
  pub pieces : List Call
  pub last : Call
  pub reads_are : reads ≡ pieces ++ last ∷ []
  pub each : Each IsPiece pieces
  pub asked : last.asked ≡ 4096
  pub so : P last

-- no complete line that was read says `quit`
abbrev pub NoQuit : List Call → Type 0
NoQuit reads = ¬ Quits (complete_lines (bytes_moved reads))

-- pieces, of which only the last may complete a line `quit`
pub record PiecesTo (reads : List Call) : Type 0 where
  pub pieces : List Call
  pub last : Call
  pub reads_are : reads ≡ pieces ++ last ∷ []
  pub each : Each IsPiece reads
  pub no_quit : NoQuit pieces

-- a text of these lines was written, as far as `Takes` says
abbrev pub WritesText : (List ℕ → List Call → Type 0) → ℕ → Triple → List (List ℕ) → List Call → Type 0
WritesText Takes pages s lines writes = (text : List ℕ) × IsText pages s lines text × Takes text writes

-- A script was run whole: it was read to its end, or to the piece that completes a line `quit`, and what was written is a text
-- of it.
abbrev pub RanWhole : ℕ → Triple → (reads writes : List Call) → Type 0
RanWhole pages s reads writes =
    ((PiecesThen MovesNone reads × NoQuit reads) ⊎ (PiecesTo reads × QuitsAnyway (bytes_moved reads)))
    × WritesText TakesAll pages s (lines_of (bytes_moved reads)) writes

-- Its reading was cut off: a read failed, or the most reads were made and each gave some bytes. What was written is a text of
-- the complete lines.
abbrev pub ReadsCut : ℕ → ℕ → Triple → (reads writes : List Call) → Type 0
ReadsCut pages most s reads writes =
    (PiecesThen Fails reads ⊎ (Each IsPiece reads × (length reads ≡ most)))
    × NoQuit reads
    × WritesText TakesAll pages s (complete_lines (bytes_moved reads)) writes

-- Its writing was cut off: one write failed or took none of its bytes, and no write came after it. What was written is a front of a
-- text of what was read, up to its end, or else whatever follows it.
abbrev pub WritesCut : ℕ → Triple → (reads writes : List Call) → Type 0
WritesCut pages s reads writes =
    (PiecesThen MovesNone reads × NoQuit reads × WritesText TakesFront pages s (lines_of (bytes_moved reads)) writes)
    ⊎ (PiecesTo reads × ((bytes : List ℕ) → WritesText TakesFront pages s (lines_of (bytes_moved reads ++ bytes)) writes))

-- the reads and writes of a script, of which the reads are at most `most`, by the script's result
abbrev pub ScriptRuns : {T : Type 0} → (pages most : ℕ) → Triple → Result T RunFault → (reads writes : List Call) → Type 0
ScriptRuns pages most s (Ok done) reads writes = RanWhole pages s reads writes
ScriptRuns pages most s (Err ReadFault) reads writes = ReadsCut pages most s reads writes
ScriptRuns pages most s (Err WriteFault) reads writes = WritesCut pages s reads writes
ScriptRuns pages most s (Err fault) reads writes = ⊥

-- no call at all
abbrev pub Untouched : (reads writes : List Call) → Type 0
Untouched reads writes = (reads ≡ []) × (writes ≡ [])

-- The same for a run of an image and a log on a machine with `pages` pages of RAM. An image that does not fit, and want of memory
-- for one that does, are refused before anything is read or written.
abbrev pub RunsScript : {T : Type 0} → (pages most : ℕ) → Boot → List LogEvent → Result T RunFault → (reads writes : List Call) → Type 0
RunsScript pages most image log (Err Memory) reads writes = FitsRam pages image × Untouched reads writes
RunsScript pages most image log (Err (BadImage kind)) reads writes = (kind ≡ Pages) × ¬ FitsRam pages image × Untouched reads writes
RunsScript pages most image log result reads writes =
    FitsRam pages image × ScriptRuns pages most (record { image = image; log = log; position = 0 }) result reads writes

-- From one time to another a reader got these reads, and the complete lines in them were answered: what a writer got from the one to the
-- other is a text of them, written whole.
pub record IsAnswered (pages : ℕ) (s : Triple) (first now : Moment) (reads : List Call) : Type 0 where
  pub writes : List Call
  pub reads_are : now.reads ≡ first.reads ++ reads
  pub writes_are : now.writes ≡ first.writes ++ writes
  pub text : WritesText TakesAll pages s (complete_lines (bytes_moved reads)) writes

-- Replies come before reads: at the time of each read of a script, all complete lines that were read before it are answered. These are
-- the reads after those in `before`, and the times of each.
abbrev pub AnswersFirst : ℕ → Triple → Moment → (before reads : List Call) → List Moment → Type 0
AnswersFirst pages s first before [] [] = Unit {0}
AnswersFirst pages s first before (read ∷ reads) (now ∷ moments) =
    IsAnswered pages s first now before × AnswersFirst pages s first (before ++ read ∷ []) reads moments
AnswersFirst pages s first before [] (now ∷ moments) = ⊥
AnswersFirst pages s first before (read ∷ reads) [] = ⊥
