-- The program (own): what its reader and its two writers get, by its words.
use Rattle.std.specs.Prelude.{◌≡◌, ◌⊎◌, ℕ, List, [], ◌++◌, Option, Some, None, Result, Ok, Err, map}
use Rattle.std.specs.Borrow.{Bor}
use Rattle.std.specs.String.{string_bytes}
use Rattle.wb_io.specs.Calls.{Call, Moment, TakesAll, TakesFront}
use Rattle.wb_options.specs.Fault.{line_of, status_of}
use Rattle.wb_options.specs.Options.{IsLineFault, IsLine, IsNotText}
use Rattle.wb_options.specs.declared.fault.RunFault.{RunFault}
use Rattle.wb_options.specs.declared.fault.RunFault.TheVariants.{Memory, Usage, Help}
use Rattle.workbench.specs.declared.program.NoWords.{NoWords}
use Rattle.workbench.specs.declared.program.NoWords.TheVariants.{NoMemory, NotText}
use Rattle.workbench.specs.Serve.{Layout, Serves, ServesInOrder}

-- a text, if there is one, was written, whole or up to the first write that failed or took none of it
abbrev pub Reports : Option (List ℕ) → List Call → Type 0
Reports None writes = writes ≡ []
Reports (Some text) writes = TakesAll text writes ⊎ TakesFront text writes

-- what standard error gets at the end: what is wrong with the words, or the line of a fault
abbrev pub error_text : {T : Type 0} → Result T RunFault → Option (List ℕ)
error_text (Ok done) = None
error_text (Err (Usage text)) = Some (string_bytes text)
error_text (Err (Help text)) = None
error_text (Err fault) = Some (line_of fault)

-- what standard output gets at the end: help, if that was asked for
abbrev pub help_text : {T : Type 0} → Result T RunFault → Option (List ℕ)
help_text (Err (Help text)) = Some (string_bytes text)
help_text result = None

-- the bytes of words
abbrev pub texts_of : Result (Bor (List (Bor (List ℕ)))) NoWords → Result (List (List ℕ)) NoWords
texts_of (Ok words) = Ok (map (λ word. word.now) words.now)
texts_of (Err why) = Err why

-- what is wrong where there are no words: there was no memory for them, or one of them is not text. That is a wrong line, unless
-- there is no memory to say so
abbrev pub IsWithoutWords : NoWords → RunFault → Type 0
IsWithoutWords NoMemory fault = fault ≡ Memory
IsWithoutWords NotText fault = IsNotText fault

-- The words were good and were served. Or they were not, or there are none, for this reason; then nothing is read or written.
abbrev pub Serving : {T : Type 0} → ℕ → Result (List (List ℕ)) NoWords → Result T RunFault → (reads writes : List Call) → Type 0
Serving pages (Err why) result reads writes = (fault : RunFault) × (result ≡ Err fault) × IsWithoutWords why fault × (reads ≡ []) × (writes ≡ [])
Serving pages (Ok words) result reads writes =
    ((layout : Layout) × IsLine words layout.kind layout.size layout.log_size × Serves pages layout result reads writes)
    ⊎ ((fault : RunFault) × (result ≡ Err fault) × IsLineFault words fault × (reads ≡ []) × (writes ≡ []))

-- nothing was written, or good words were served in order
abbrev pub ServingInOrder : {T : Type 0} → ℕ → Result (List (List ℕ)) NoWords → Result T RunFault → (reads writes : List Call) → (first : Moment) → List Moment → Type 0
ServingInOrder pages (Err why) result reads writes first moments = writes ≡ []
ServingInOrder pages (Ok words) result reads writes first moments =
    (writes ≡ [])
    ⊎ ((layout : Layout) × IsLine words layout.kind layout.size layout.log_size × ServesInOrder pages layout result reads writes first moments)

-- The program: the words are served or not, then help goes to the output, and a fault is reported on the errors.
pub record Program (pages : ℕ) (words : Result (List (List ℕ)) NoWords) (status : ℕ) (reads writes reports : List Call) : Type 0 where
  pub outcome : Result (Unit {0}) RunFault
  pub served : List Call
  pub helped : List Call
  pub writes_are : writes ≡ served ++ helped
  pub serving : Serving pages words outcome reads served
  pub help : Reports (help_text outcome) helped
  pub error : Reports (error_text outcome) reports
  pub status_is : status ≡ status_of outcome
