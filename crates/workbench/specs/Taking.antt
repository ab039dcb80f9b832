-- A script as its bytes come (own).
use Rattle.std.specs.Prelude.{◌≡◌, Bool, true, false, ℕ, List, [], ◌++◌}
use Rattle.wb_io.specs.Calls.{Call, Each, MovesSome, TakesFront, bytes_moved}
use Rattle.wb_text.specs.Command.{command_of}
use Rattle.wb_text.specs.Reply.{text_of}
use Rattle.workbench.specs.LineBuffer.{HasNoFeed}
use Rattle.workbench.specs.Script.{FromLine, IsText, Quits, QuitsAnyway, complete_lines, lines_of, says_quit}
use Rattle.wb_session.specs.Session.{Triple}
use Rattle.workbench.specs.declared.script.LineOutcome.{LineOutcome}
use Rattle.workbench.specs.declared.script.LineOutcome.TheVariants.{Quit, Nothing, Reply}

-- What is pending is a part of a line, and its other bytes follow. Whatever they are, the text of all of it is what was
-- written so far and a text from here on. What was written so far is a text of the complete lines, and none of them says `quit`.
pub record GoesOn (pages : ℕ) (s : Triple) (input : List ℕ) (new : Triple) (pending text : List ℕ) : Type 0 where
  pub text_goes_on : (bytes more : List ℕ) → IsText pages new (lines_of (pending ++ bytes)) more → IsText pages s (lines_of (input ++ bytes)) (text ++ more)
  pub quits_too : (bytes : List ℕ) → Quits (lines_of (pending ++ bytes)) → Quits (lines_of (input ++ bytes))
  pub quits_only : (bytes : List ℕ) → Quits (lines_of (input ++ bytes)) → Quits (lines_of (pending ++ bytes))
  pub no_quit : ¬ Quits (complete_lines input)
  pub complete_text : IsText pages s (complete_lines input) text
  pub no_feed : HasNoFeed pending

-- the input says `quit`: whatever follows, this is its text
pub record Ends (pages : ℕ) (s : Triple) (input text : List ℕ) : Type 0 where
  pub is_text : (bytes : List ℕ) → IsText pages s (lines_of (input ++ bytes)) text
  pub quits : QuitsAnyway input

-- a write stops: whatever follows the input, these calls took a front of its text, and the last failed or took none
pub record Stops (pages : ℕ) (s : Triple) (input : List ℕ) (calls : List Call) : Type 0 where
  pub front : (bytes : List ℕ) → (text : List ℕ) × IsText pages s (lines_of (input ++ bytes)) text × TakesFront text calls

-- one line, not `quit`, leads from a session to another, and writes a text
pub record LeadsTo (pages : ℕ) (s : Triple) (line : List ℕ) (new : Triple) (text : List ℕ) : Type 0 where
  pub answered : FromLine pages s (command_of line) (λ t more. (t ≡ new) × (more ≡ [])) text
  pub no_quit : says_quit (command_of line) ≡ false

-- what a line brings: it is `quit`, or it leads to another session without a text, or with that of a reply
abbrev pub IsLineOutcome : ℕ → Triple → List ℕ → Triple → LineOutcome → Type 0
IsLineOutcome pages s line new Quit = says_quit (command_of line) ≡ true
IsLineOutcome pages s line new Nothing = LeadsTo pages s line new []
IsLineOutcome pages s line new (Reply reply) = LeadsTo pages s line new (text_of reply)

-- a line was answered by these calls: it is `quit` and nothing was written, or it leads to another session
abbrev pub Answered : ℕ → Triple → List ℕ → Triple → List Call → Bool → Type 0
Answered pages s line new calls true = (says_quit (command_of line) ≡ true) × (calls ≡ [])
Answered pages s line new calls false = Each MovesSome calls × LeadsTo pages s line new (bytes_moved calls)

-- its answer was stopped
abbrev pub Unanswered : ℕ → Triple → List ℕ → List Call → Type 0
Unanswered pages s line calls = (new : Triple) × (text : List ℕ) × LeadsTo pages s line new text × TakesFront text calls

-- bytes were taken: they end with `quit` in them, or go on
abbrev pub Took : ℕ → Triple → Triple → List ℕ → List ℕ → List ℕ → List Call → Bool → Type 0
Took pages s new pending rest bytes calls true = Each MovesSome calls × Ends pages s (pending ++ bytes) (bytes_moved calls)
Took pages s new pending rest bytes calls false = Each MovesSome calls × GoesOn pages s (pending ++ bytes) new rest (bytes_moved calls)
