-- The program's run on its input (own): the bytes of an image and of a log, and then a script.
use Rattle.std.specs.Prelude.{◌≡◌, ◌⊎◌, ℕ, ◌+◌, ◌-◌, ◌<◌, min, List, [], ◌∷◌, ◌++◌, length, take, drop, Result, Ok, Err}
use Rattle.input_log.specs.Event.{LogEvent}
use Rattle.input_log.specs.Reading.{log_at}
use Rattle.wb_io.specs.Calls.{Call, Fails, Moment, MovesNone, MovesSome, bytes_moved, bytes_of}
use Rattle.r3k_image.specs.Boot.{Boot, FitsRam}
use Rattle.r3k_image.specs.Reading.{image_at, raw_rom_at}
use Rattle.r3k_asm.specs.Meaning.{image_of as source_image}
use Rattle.r3k_image.specs.declared.fault.ImageKind.TheVariants.{Pages}
use Rattle.wb_options.specs.declared.arguments.Kind.{Kind}
use Rattle.wb_options.specs.declared.arguments.Kind.TheVariants.{Rom, Image, Source}
use Rattle.wb_options.specs.Fault.{run_fault_of_source}
use Rattle.wb_options.specs.declared.fault.RunFault.{RunFault}
use Rattle.wb_options.specs.declared.fault.RunFault.TheVariants.{Memory, BadImage, BadLog, BadSource, ReadFault}
use Rattle.workbench.specs.Runs.{AnswersFirst, ScriptRuns, max_reads}

-- the answer of a reading, with its fault as one of a run
abbrev pub with_fault : {A E : Type 0} → (E → RunFault) → Result A E → Result A RunFault
with_fault fault_of (Ok made) = Ok made
with_fault fault_of (Err fault) = Err (fault_of fault)

-- the image that bytes of a kind make, or why they make none
abbrev pub image_of : Kind → List ℕ → Result Boot RunFault
image_of Rom bytes = with_fault (λ kind. BadImage kind) (raw_rom_at bytes)
image_of Image bytes = with_fault (λ kind. BadImage kind) (image_at bytes)
image_of Source bytes = with_fault run_fault_of_source (source_image bytes)

-- the log that bytes spell, or why they spell none; no byte at all is the empty log
abbrev pub log_of : List ℕ → Result (List LogEvent) RunFault
log_of [] = Ok []
log_of (byte ∷ bytes) = with_fault (λ kind. BadLog kind) (log_at (byte ∷ bytes))

-- what a call gives: what is to be made, or why it can't be, or want of memory
abbrev pub Makes : {A : Type 0} → Result A RunFault → Result A RunFault → Type 0
Makes (Ok made) answer = answer ≡ Ok made
Makes (Err Memory) answer = Unit {0}
Makes (Err fault) answer = answer ≡ Err fault

-- what the program's line says of the bytes before the script: a kind, and how many are those of the image and of the log
pub record Layout : Type 0 where
  pub kind : Kind
  pub size : ℕ
  pub log_size : ℕ

-- how many bytes stand before the script
abbrev pub size_of : Layout → ℕ
size_of layout = layout.size + layout.log_size

-- the image that the first of these bytes make, or why they make none
abbrev pub image_in : Layout → List ℕ → Result Boot RunFault
image_in layout bytes = image_of layout.kind (take layout.size bytes)

-- the log that the bytes after them spell, or why they spell none
abbrev pub log_in : Layout → List ℕ → Result (List LogEvent) RunFault
log_in layout bytes = log_of (drop layout.size bytes)

-- these bytes make this image and this log, and the image fits a machine with `pages` pages of RAM
pub record IsGood (pages : ℕ) (layout : Layout) (bytes : List ℕ) (image : Boot) (log : List LogEvent) : Type 0 where
  pub image_is : image_in layout bytes ≡ Ok image
  pub log_is : log_in layout bytes ≡ Ok log
  pub fits : FitsRam pages image

-- They make no image; or an image, and no log; or both, and the image does not fit. The first of these is reported.
abbrev pub IsBad : ℕ → Layout → List ℕ → RunFault → Type 0
IsBad pages layout bytes fault =
    (image_in layout bytes ≡ Err fault)
    ⊎ (((image : Boot) × (image_in layout bytes ≡ Ok image) × (log_in layout bytes ≡ Err fault))
    ⊎ ((image : Boot) × (log : List LogEvent) × (image_in layout bytes ≡ Ok image) × (log_in layout bytes ≡ Ok log) × ¬ FitsRam pages image × (fault ≡ BadImage Pages)))

-- reads of `size` bytes: each asked for what was missing, or for a piece of 4096, and gave some
abbrev pub AsksFor : ℕ → List Call → Type 0
AsksFor size [] = Unit {0}
AsksFor size (call ∷ calls) =
    (call.asked ≡ min size 4096) × MovesSome call × AsksFor (size - length (bytes_of call)) calls

-- reads of `size` bytes, which gave all of them
abbrev pub ReadsAll : ℕ → List Call → Type 0
ReadsAll size reads = AsksFor size reads × (length (bytes_moved reads) ≡ size)

-- reads of `size` bytes were cut off: a read failed or gave none, or the most reads were made
pub record EndsWithin (size : ℕ) (reads : List Call) : Type 0 where
  pub pieces : List Call
  pub last : Call
  pub reads_are : reads ≡ pieces ++ last ∷ []
  pub each : AsksFor size pieces
  pub short : length (bytes_moved pieces) < size
  pub asked : last.asked ≡ min (size - length (bytes_moved pieces)) 4096
  pub so : Fails last ⊎ MovesNone last

abbrev pub IsCutWithin : ℕ → List Call → Type 0
IsCutWithin size reads =
    EndsWithin size reads ⊎ (AsksFor size reads × (length (bytes_moved reads) < size) × (length reads ≡ max_reads))

-- Image and log were read and found good, and what followed was run as a script from position 0. All reads together are at
-- most 2^20.
pub record ServesScript {T : Type 0} (pages : ℕ) (layout : Layout) (result : Result T RunFault) (reads writes : List Call) : Type 0 where
  pub before : List Call
  pub script : List Call
  pub image : Boot
  pub log : List LogEvent
  pub reads_are : reads ≡ before ++ script
  pub read : ReadsAll (size_of layout) before
  pub good : IsGood pages layout (bytes_moved before) image log
  pub runs : ScriptRuns pages (max_reads - length before) (record { image = image; log = log; position = 0 }) result script writes

-- Image and log were read and refused for this reason. Nothing is written.
abbrev pub Refuses : ℕ → Layout → RunFault → (reads writes : List Call) → Type 0
Refuses pages layout fault reads writes = ReadsAll (size_of layout) reads × IsBad pages layout (bytes_moved reads) fault × (writes ≡ [])

-- How the program's run goes, by its result. Nothing is written before image and log are read and found good.
abbrev pub Serves : {T : Type 0} → ℕ → Layout → Result T RunFault → (reads writes : List Call) → Type 0
Serves pages layout (Err Memory) reads writes = AsksFor (size_of layout) reads × (writes ≡ [])
Serves pages layout (Err (BadImage why)) reads writes = Refuses pages layout (BadImage why) reads writes
Serves pages layout (Err (BadLog why)) reads writes = Refuses pages layout (BadLog why) reads writes
Serves pages layout (Err (BadSource line why)) reads writes = Refuses pages layout (BadSource line why) reads writes
Serves pages layout (Err ReadFault) reads writes =
    (IsCutWithin (size_of layout) reads × (writes ≡ [])) ⊎ ServesScript {T = Unit {0}} pages layout (Err ReadFault) reads writes
Serves pages layout result reads writes = ServesScript pages layout result reads writes

-- Nothing was written, or a script was served and its replies came before its reads. These are the times of those reads, and `first` is
-- that before the run.
abbrev pub ServesInOrder : {T : Type 0} → ℕ → Layout → Result T RunFault → (reads writes : List Call) → (first : Moment) → List Moment → Type 0
ServesInOrder pages layout result reads writes first moments =
    (writes ≡ [])
    ⊎ ((served : ServesScript pages layout result reads writes)
    × AnswersFirst pages (record { image = served.image; log = served.log; position = 0 }) (record { reads = first.reads ++ served.before; writes = first.writes }) [] served.script moments)

-- why image or log could not be made
abbrev pub IsJudgement : RunFault → Type 0
IsJudgement Memory = Unit {0}
IsJudgement (BadImage why) = Unit {0}
IsJudgement (BadLog why) = Unit {0}
IsJudgement (BadSource line why) = Unit {0}
IsJudgement fault = ⊥

-- why the bytes before a script could not be read
abbrev pub IsFrontFault : ℕ → List Call → RunFault → Type 0
IsFrontFault size reads Memory = AsksFor size reads
IsFrontFault size reads ReadFault = IsCutWithin size reads
IsFrontFault size reads fault = ⊥
