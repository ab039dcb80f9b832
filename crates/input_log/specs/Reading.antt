-- Reading a log from left to right (own), with the first fault that is met.
use Rattle.std.specs.Prelude.{◌≡◌, ℕ, ◌+◌, ◌*◌, ◌^◌, zero, suc, List, [], ◌∷◌, length, Result, Ok, Err, IsOk, nat_lt, nat_le, ◌==◌, ◌&&◌, if◌then◌else◌}
use Rattle.std.specs.Str.{bytes_eq}
use Rattle.r3k_word.specs.Reading.{◌>>=◌, bytes_at, number_at}
use Rattle.input_log.specs.Limits.{max_events}
use Rattle.input_log.specs.declared.format.TheConstants.{MAGIC_ONE, MAGIC_TWO}
use Rattle.input_log.specs.declared.format.Version.{Version}
use Rattle.input_log.specs.declared.format.Version.TheVariants.{One, Two}
use Rattle.input_log.specs.declared.event.Kind.{Kind}
use Rattle.input_log.specs.declared.event.Kind.TheVariants.{Byte, Framing, Wire}
use Rattle.input_log.specs.declared.fault.LogKind.{LogKind}
use Rattle.input_log.specs.declared.fault.LogKind.TheVariants as kinds
use Rattle.input_log.specs.declared.fault.LogFault.{LogFault}
use Rattle.input_log.specs.declared.fault.LogFault.TheVariants.{Memory, Bad}
use Rattle.input_log.specs.Event.{LogEvent, max_line, max_byte}
use Rattle.input_log.specs.Spelling.{last_time}

-- what a function that may run out of memory returned, seen by view, is what reading gives
abbrev pub FailsOrLacks : {Y : Type 0} → LogFault → Result Y LogKind → Type 0
FailsOrLacks Memory read = Unit {0}
FailsOrLacks (Bad kind) read = read ≡ Err kind

abbrev pub ReadsOrLacks : {X Y : Type 0} → (X → Y) → Result X LogFault → Result Y LogKind → Type 0
ReadsOrLacks view (Ok x) read = read ≡ Ok (view x)
ReadsOrLacks view (Err fault) read = FailsOrLacks fault read

-- one byte, and the bytes after it
abbrev pub byte_at : List ℕ → Result (ℕ × List ℕ) LogKind
byte_at [] = Err kinds.Short
byte_at (byte ∷ rest) = Ok (byte, rest)

-- the version that the first eight bytes name, and the bytes after them
unfoldable pub version_at : List ℕ → Result (Version × List ℕ) LogKind
version_at bytes = do
  magic ← bytes_at kinds.Short 8 bytes
  if bytes_eq magic.0 MAGIC_ONE then Ok (One, magic.1) else if bytes_eq magic.0 MAGIC_TWO then Ok (Two, magic.1) else Err kinds.Magic

-- the number of events, and the bytes after it: it is judged before any of them is read
unfoldable pub count_at : List ℕ → Result (ℕ × List ℕ) LogKind
count_at bytes = do
  count ← number_at kinds.Short bytes
  if nat_le count.0 max_events then Ok count else Err kinds.Count

-- a time, and the bytes after it
unfoldable pub time_at : Version → List ℕ → Result (ℕ × List ℕ) LogKind
time_at One bytes = number_at kinds.Short bytes
time_at Two bytes = do
  low ← number_at kinds.Short bytes
  high ← number_at kinds.Short low.1
  Ok (low.0 + high.0 * 2 ^ 32, high.1)

-- the kind of a number
abbrev pub kind_of : ℕ → Result Kind LogKind
kind_of number =
    if number == 0 then Ok Byte else if number == 1 then Ok Framing else if number == 2 then Ok Wire else Err kinds.Kind

-- a kind, and the bytes after it: in version one none is spelled
unfoldable pub kind_at : Version → List ℕ → Result (Kind × List ℕ) LogKind
kind_at One bytes = Ok (Byte, bytes)
kind_at Two bytes = do
  number ← byte_at bytes
  kind ← kind_of number.0
  Ok (kind, number.1)

-- an event after one of the time last
unfoldable pub event_at : Version → ℕ → List ℕ → Result (LogEvent × List ℕ) LogKind
event_at version last bytes = do
  time ← time_at version bytes
  kind ← if nat_le last time.0 && nat_le time.0 (last_time version) then kind_at version time.1 else Err kinds.Time
  line ← byte_at kind.1
  byte ← if nat_le line.0 (max_line kind.0) then byte_at line.1 else Err kinds.Line
  if nat_le byte.0 (max_byte kind.0)
      then Ok (record { time = time.0; kind = kind.0; line = line.0; byte = byte.0 }, byte.1)
      else Err kinds.Value

-- n events, after one of the time last
unfoldable pub events_at : Version → ℕ → ℕ → List ℕ → Result (List LogEvent × List ℕ) LogKind
events_at version zero last bytes = Ok ([], bytes)
events_at version (suc n) last bytes = do
  first ← event_at version last bytes
  others ← events_at version n first.0.time first.1
  Ok (first.0 ∷ others.0, others.1)

-- the log that all of the bytes are
unfoldable pub log_at : List ℕ → Result (List LogEvent) LogKind
log_at bytes = do
  version ← version_at bytes
  count ← count_at version.1
  events ← events_at version.0 count.0 0 count.1
  if length events.1 == 0 then Ok events.0 else Err kinds.Extra

-- The bytes begin as a log does and, as their number says, with an event. Only then is memory asked for, for it and what follows.
abbrev pub HasEvent : List ℕ → Type 0
HasEvent bytes = IsOk (version_at bytes >>= λ version. count_at version.1 >>= λ count.
    if nat_lt 0 count.0 then event_at version.0 0 count.1 else Err kinds.Extra)
