-- The line and the status of a fault (own).
use Rattle.std.specs.Prelude.{ℕ, List, [], ◌∷◌, ◌++◌, Result, Ok, Err, codes}
use Rattle.std.specs.Fmt.{decimal}
use Rattle.r3k_image.specs.declared.fault.ImageKind.{ImageKind}
use Rattle.r3k_image.specs.declared.fault.ImageKind.TheVariants.{Magic, ByteTime, Unit as UnitKind}
use Rattle.r3k_image.specs.declared.fault.ImageKind.TheVariants.{ClockStart, Segment, Short, Extra}
use Rattle.r3k_image.specs.declared.fault.ImageKind.TheVariants.{RawSize, Pages}
use Rattle.r3k_image.specs.declared.fault.ImageFault.{ImageFault}
use Rattle.r3k_image.specs.declared.fault.ImageFault.TheVariants.{Memory as ImageMemory, Bad}
use Rattle.input_log.specs.declared.fault.LogKind.{LogKind}
use Rattle.input_log.specs.declared.fault.LogKind.TheVariants.{Magic as LogMagic, Count, Time, Kind as EventKind, Line, Value, Short as LogShort, Extra as LogExtra}
use Rattle.input_log.specs.declared.fault.LogFault.{LogFault}
use Rattle.input_log.specs.declared.fault.LogFault.TheVariants.{Memory as LogMemory, Bad as BadBytes}
use Rattle.asm_line.specs.declared.kind.AsmKind.{AsmKind}
use Rattle.asm_line.specs.declared.kind.AsmKind.TheVariants.{Name, Syntax as SyntaxKind, Number, Twice, Place, Overlap, Label, Reach}
use Rattle.r3k_asm.specs.declared.fault.AsmFault.{AsmFault}
use Rattle.r3k_asm.specs.declared.fault.AsmFault.TheVariants.{Memory as SourceMemory, Bad as BadLine}
use Rattle.wb_options.specs.declared.fault.RunFault.{RunFault}
use Rattle.wb_options.specs.declared.fault.RunFault.TheVariants.{Memory, BadImage, BadLog, BadSource, ReadFault}
use Rattle.wb_options.specs.declared.fault.RunFault.TheVariants.{WriteFault, Usage, Help}

-- the name of an image's fault kind
abbrev pub kind_name : ImageKind → List ℕ
kind_name Magic = codes "Magic"
kind_name ByteTime = codes "ByteTime"
kind_name UnitKind = codes "Unit"
kind_name ClockStart = codes "ClockStart"
kind_name Segment = codes "Segment"
kind_name Short = codes "Short"
kind_name Extra = codes "Extra"
kind_name RawSize = codes "RawSize"
kind_name Pages = codes "Pages"

-- the name of a log's fault kind
abbrev pub log_kind_name : LogKind → List ℕ
log_kind_name LogMagic = codes "Magic"
log_kind_name Count = codes "Count"
log_kind_name Time = codes "Time"
log_kind_name EventKind = codes "Kind"
log_kind_name Line = codes "Line"
log_kind_name Value = codes "Value"
log_kind_name LogShort = codes "Short"
log_kind_name LogExtra = codes "Extra"

-- the name of a source's fault kind
abbrev pub source_kind_name : AsmKind → List ℕ
source_kind_name Name = codes "Name"
source_kind_name SyntaxKind = codes "Syntax"
source_kind_name Number = codes "Number"
source_kind_name Twice = codes "Twice"
source_kind_name Place = codes "Place"
source_kind_name Overlap = codes "Overlap"
source_kind_name Label = codes "Label"
source_kind_name Reach = codes "Reach"

-- the fault of a run for that of an image
abbrev pub run_fault_of : ImageFault → RunFault
run_fault_of ImageMemory = Memory
run_fault_of (Bad kind) = BadImage kind

-- the fault of a run for that of a log
abbrev pub run_fault_of_log : LogFault → RunFault
run_fault_of_log LogMemory = Memory
run_fault_of_log (BadBytes kind) = BadLog kind

-- the fault of a run for that of a source
abbrev pub run_fault_of_source : AsmFault → RunFault
run_fault_of_source SourceMemory = Memory
run_fault_of_source (BadLine line kind) = BadSource line kind

-- the number, the name and the kind of a fault that has a number, and the line of one of a source
abbrev pub fault_name : RunFault → List ℕ
fault_name Memory = codes "1 Memory"
fault_name (BadImage kind) = codes "9 BadImage " ++ kind_name kind
fault_name (BadLog kind) = codes "10 BadLog " ++ log_kind_name kind
fault_name (BadSource line kind) = codes "13 BadSource " ++ decimal line ++ codes " " ++ source_kind_name kind
fault_name ReadFault = codes "11 ReadFault"
fault_name WriteFault = codes "12 WriteFault"
fault_name (Usage text) = []
fault_name (Help text) = []

-- the fault has a number: it is no text for the user
abbrev pub IsNumbered : RunFault → Type 0
IsNumbered (Usage text) = ⊥
IsNumbered (Help text) = ⊥
IsNumbered _ = Unit {0}

-- the one line that reports a fault, with its line feed
abbrev pub line_of : RunFault → List ℕ
line_of fault = codes "r3kwb: error " ++ fault_name fault ++ 10 ∷ []

-- the program's status after a fault
abbrev pub fault_status : RunFault → ℕ
fault_status (Help text) = 0
fault_status (BadImage kind) = 1
fault_status (BadLog _) = 1
fault_status (BadSource line kind) = 1
fault_status (Usage text) = 2
fault_status ReadFault = 3
fault_status WriteFault = 3
fault_status Memory = 4

-- the program's status
abbrev pub status_of : {T : Type 0} → Result T RunFault → ℕ
status_of (Ok done) = 0
status_of (Err fault) = fault_status fault
