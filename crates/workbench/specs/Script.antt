-- The text of a script (own): the replies of one run of a session over its lines, in order, up to `quit` or the end.
use Rattle.std.specs.Prelude.{◌≡◌, ◌⊎◌, Bool, true, false, ℕ, List, [], ◌∷◌, ◌++◌, Option, Some, None, Result, Ok, Err, ◌==◌, ◌||◌, if◌then◌else◌}
use Rattle.wb_text.specs.Command.{command_of}
use Rattle.wb_text.specs.Reply.{text_of}
use Rattle.wb_text.specs.declared.command.Command.{Command}
use Rattle.wb_text.specs.declared.command.Command.TheVariants.{Quit}
use Rattle.refusal.specs.declared.fault.Fault.{Fault}
use Rattle.wb_text.specs.declared.reply.Reply.{Reply}
use Rattle.wb_text.specs.declared.reply.Reply.TheVariants.{Fault as Refused}
use Rattle.wb_session.specs.Session.{Triple, Answers}

-- a byte in front of the first line
abbrev pub onto_first : ℕ → List (List ℕ) → List (List ℕ)
onto_first byte [] = (byte ∷ []) ∷ []
onto_first byte (line ∷ lines) = (byte ∷ line) ∷ lines

-- the lines of a script, without their line feeds. The last may lack its own; where it is empty, there is none.
unfoldable pub lines_of : List ℕ → List (List ℕ)
lines_of [] = []
lines_of (byte ∷ bytes) = if byte == 10 then [] ∷ lines_of bytes else onto_first byte (lines_of bytes)

-- whether a text has a line feed
abbrev pub has_feed : List ℕ → Bool
has_feed [] = false
has_feed (byte ∷ bytes) = (byte == 10) || has_feed bytes

-- the front of a script up to its last line feed
unfoldable pub complete_part : List ℕ → List ℕ
complete_part [] = []
complete_part (byte ∷ bytes) = if has_feed (byte ∷ bytes) then byte ∷ complete_part bytes else []

-- the lines of a script that a line feed ends
abbrev pub complete_lines : List ℕ → List (List ℕ)
complete_lines script = lines_of (complete_part script)

-- whether a command is `quit`
abbrev pub is_quit : Command → Bool
is_quit Quit = true
is_quit _ = false

-- what the lines after one may write, from the session after it
abbrev pub Rest : Type 1
Rest = Triple → List ℕ → Type 0

-- the text from a command on: nothing from `quit` on, or the reply, and then what the lines after it write
abbrev pub FromCommand : ℕ → Triple → Command → Bool → Rest → List ℕ → Type 0
FromCommand pages s command true rest text = text ≡ []
FromCommand pages s command false rest text =
    (new : Triple) × (reply : Reply) × (more : List ℕ) × Answers pages s command new reply × (text ≡ text_of reply ++ more) × rest new more

-- the text from a line on, by what it says: a fault's reply, nothing for a line without a command, or a command's
abbrev pub FromLine : ℕ → Triple → Result (Option Command) Fault → Rest → List ℕ → Type 0
FromLine pages s (Err fault) rest text = (more : List ℕ) × (text ≡ text_of (Refused fault) ++ more) × rest s more
FromLine pages s (Ok None) rest text = rest s text
FromLine pages s (Ok (Some command)) rest text = FromCommand pages s command (is_quit command) rest text

-- a text of these lines, from a session on: the replies of one run of the session over them, in order
abbrev pub IsText : ℕ → Triple → List (List ℕ) → List ℕ → Type 0
IsText pages s [] text = text ≡ []
IsText pages s (line ∷ lines) text = FromLine pages s (command_of line) (λ new more. IsText pages new lines more) text

-- what is said is `quit`
abbrev pub says_quit : Result (Option Command) Fault → Bool
says_quit (Ok (Some command)) = is_quit command
says_quit said = false

-- a line says `quit`
abbrev pub Quits : List (List ℕ) → Type 0
Quits [] = ⊥
Quits (line ∷ lines) = (says_quit (command_of line) ≡ true) ⊎ Quits lines

-- whatever follows these bytes of a script, one of their lines says `quit`
abbrev pub QuitsAnyway : List ℕ → Type 0
QuitsAnyway script = (bytes : List ℕ) → Quits (lines_of (script ++ bytes))
