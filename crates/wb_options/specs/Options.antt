-- The program's line (own): `r3kwb [--kind rom|image|source] [--size N] [--log N]`. How words are read as
-- options is clap's, whose definitions say it for this command.
use Rattle.std.specs.Prelude.{◌≡◌, ◌≢◌, ◌⊎◌, ◌≤◌, ⊤, ℕ, List, [], ◌∷◌, Option, Some, None}
use Rattle.std.specs.Prelude.{if◌then◌else◌, bytes_eq, codes, drop, slice_get}
use Rattle.std.specs.Option.{option_map_or}
use Rattle.clap.specs.Lexer.{long_of}
use Rattle.std.specs.Str.Parse.{IsNumeral, digits_value}
use Rattle.clap.specs.Words.{App, IsAmong, Kinds, Rule, Text, fault_of, new_app, new_rule}
use Rattle.clap.specs.Words.{with_rule}
use Rattle.clap.specs.declared.error.kind.ErrorKind.{ErrorKind}
use Rattle.clap.specs.declared.error.kind.ErrorKind.TheVariants.{DisplayHelp, InvalidValue, OutOfMemory}
use Rattle.wb_options.specs.declared.fault.RunFault.{RunFault}
use Rattle.wb_options.specs.declared.fault.RunFault.TheVariants.{Memory, Usage, Help}
use Rattle.wb_options.specs.declared.arguments.Kind.{Kind}
use Rattle.wb_options.specs.declared.arguments.Kind.TheVariants.{Rom, Image, Source}

-- an option `--name VALUE` or `--name=VALUE`, at most once
abbrev pub option_rule : Text → Rule
option_rule name = record (new_rule name) { long = Some name; value_names = 1 }

-- the program's line, with its three options; clap adds `--help` and `-h`
abbrev pub command_line : App
command_line =
    with_rule (with_rule (with_rule (new_app (codes "r3kwb")) (option_rule (codes "kind")))
    (option_rule (codes "size"))) (option_rule (codes "log"))

-- what is wrong with the words, the first of which names the program; a call for help counts
abbrev pub faults_of : List Text → Kinds
faults_of words = fault_of command_line words

-- the value of an option at a word that reads as `--name=value` or `--name`, where `next` is the
-- word after it, and `later` is the value that the words after it give
abbrev pub value_at : Text → Option (Text × Option Text) → Option Text → Option Text → Option Text
value_at name None next later = later
value_at name (Some word) next later =
    if bytes_eq word.0 name then option_map_or (λ value. Some value) word.1 next else later

-- the value that the words give an option, if they name it: what follows `--name=`, or the word
-- after `--name`
abbrev pub value_in : Text → List Text → Option Text
value_in name [] = None
value_in name (word ∷ rest) =
    value_at name (long_of word) (slice_get rest 0) (value_in name rest)

-- the word that names a kind
abbrev pub kind_text : Kind → Text
kind_text Rom = codes "rom"
kind_text Image = codes "image"
kind_text Source = codes "source"

-- the kind that a value names; without one it is a ROM
abbrev pub IsKind : Option Text → Kind → Type 0
IsKind None kind = kind ≡ Rom
IsKind (Some text) kind = text ≡ kind_text kind

-- the number that a value writes in decimal digits; without one it is 0
abbrev pub IsSize : Option Text → ℕ → Type 0
IsSize None size = size ≡ 0
IsSize (Some text) size = IsNumeral 10 text × (digits_value 10 text ≡ size)

-- the most bytes of an image or a log, 2^26
abbrev pub max_size : ℕ
max_size = 67108864

-- the words are good, and give this kind and these sizes of image and log, each at most `max_size`
pub record IsLine (words : List Text) (kind : Kind) (size log_size : ℕ) : Type 0 where
  pub good : faults_of words ≡ []
  pub kind_is : IsKind (value_in (codes "kind") (drop 1 words)) kind
  pub size_is : IsSize (value_in (codes "size") (drop 1 words)) size
  pub in_range : size ≤ max_size
  pub log_size_is : IsSize (value_in (codes "log") (drop 1 words)) log_size
  pub log_in_range : log_size ≤ max_size

-- the words have a fault that is no call for help, or a value that is no kind or no size
abbrev pub IsWrongLine : List Text → Type 0
IsWrongLine words =
    ((fault : ErrorKind) × IsAmong fault (faults_of words) × (fault ≢ DisplayHelp))
    ⊎ ((faults_of words ≡ []) × ((kind : Kind) (size log_size : ℕ) → ¬ IsLine words kind size log_size))

-- the fault reports what is wrong with the words
abbrev pub IsLineFault : List Text → RunFault → Type 0
IsLineFault words Memory = ⊤
IsLineFault words (Usage text) = IsWrongLine words
IsLineFault words (Help text) = IsAmong DisplayHelp (faults_of words)
IsLineFault words _ = ⊥

-- the fault that a mistake of this kind, or a call for help, is
abbrev pub IsFaultOf : ErrorKind → RunFault → Type 0
IsFaultOf kind Memory = ⊤
IsFaultOf kind (Usage text) = (kind ≢ DisplayHelp) × (kind ≢ OutOfMemory)
IsFaultOf kind (Help text) = kind ≡ DisplayHelp
IsFaultOf kind _ = ⊥

-- the fault of words that are not text: that of a wrong value
abbrev pub IsNotText : RunFault → Type 0
IsNotText fault = IsFaultOf InvalidValue fault
