-- How a log is spelled (own), in two versions: eight bytes of magic, the number of events, and then each event. In version
-- one an event is its time, its line and its byte, and its kind is Byte; in version two it is its time, its kind, its line
-- and its byte. The number has four bytes, a time four in version one and eight in version two, little-endian; kind, line
-- and byte are a byte each.
use Rattle.std.specs.Prelude.{◌≡◌, ℕ, ◌/◌, ◌%◌, ◌^◌, Bool, true, false, ◌&&◌, if◌then◌else◌, nat_le, List, [], ◌∷◌, ◌++◌, length, flat_map, All, IsTrue}
use Rattle.r3k_word.specs.Word.{bytes_of}
use Rattle.input_log.specs.Limits.{max_time}
use Rattle.input_log.specs.declared.format.Version.{Version}
use Rattle.input_log.specs.declared.format.Version.TheVariants.{One, Two}
use Rattle.input_log.specs.declared.format.TheConstants.{MAGIC_ONE, MAGIC_TWO}
use Rattle.input_log.specs.declared.event.Kind.{Kind}
use Rattle.input_log.specs.declared.event.Kind.TheVariants.{Byte, Framing, Wire}
use Rattle.input_log.specs.Event.{LogEvent}

-- the first eight bytes of a version
abbrev pub magic_of : Version → List ℕ
magic_of One = MAGIC_ONE
magic_of Two = MAGIC_TWO

-- the greatest time that a version takes: in version one, one less than the greatest of four bytes
abbrev pub last_time : Version → ℕ
last_time One = 4294967294
last_time Two = max_time

-- the number of a kind
abbrev pub kind_number : Kind → ℕ
kind_number Byte = 0
kind_number Framing = 1
kind_number Wire = 2

-- whether an event is a byte without a framing error
abbrev pub is_byte : Kind → Bool
is_byte Byte = true
is_byte Framing = false
is_byte Wire = false

-- the bytes of an event in a version
abbrev pub event_bytes : Version → LogEvent → List ℕ
event_bytes One event = bytes_of event.time ++ event.line ∷ event.byte ∷ []
event_bytes Two event =
    bytes_of (event.time % 2 ^ 32) ++ bytes_of (event.time / 2 ^ 32) ++ kind_number event.kind ∷ event.line ∷ event.byte ∷ []

-- the bytes of a log in a version
abbrev pub spelled_in : Version → List LogEvent → List ℕ
spelled_in version events = magic_of version ++ bytes_of (length events) ++ flat_map (event_bytes version) events

-- a version has room for an event
abbrev pub has_room : Version → LogEvent → Bool
has_room One event = is_byte event.kind && nat_le event.time (last_time One)
has_room Two event = true

-- the first version that has room for all events
abbrev pub version_for : List LogEvent → Version
version_for [] = One
version_for (event ∷ later) = if has_room One event then version_for later else Two

-- the bytes of a log
abbrev pub spelling : List LogEvent → List ℕ
spelling events = spelled_in (version_for events) events

-- a version has room for all events
abbrev pub Fits : Version → List LogEvent → Type 0
Fits version events = All (λ event. IsTrue (has_room version event)) events

-- bytes spell a log in a version that has room for it
abbrev pub IsSpelled : List ℕ → List LogEvent → Type 0
IsSpelled bytes events = (version : Version) × Fits version events × (bytes ≡ spelled_in version events)
