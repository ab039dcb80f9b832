-- Writing an image (own): its set words as the longest runs, in ascending order.
use Rattle.std.specs.Prelude.{◌≢◌, ℕ, ◌+◌, ◌<◌, List, [], ◌∷◌, length, flat_map, ◌==◌, if◌then◌else◌}
use Rattle.std.specs.FinMap as map
use Rattle.r3k_image.specs.Boot.{Boot}
use Rattle.r3k_image.specs.Segments.{WordsAt, end_of, entries_from}
use Rattle.r3k_image.specs.Spelling.{spelling}

-- a word with its address before runs: it begins the first run if that directly follows it, else it is a run of its own
abbrev pub onto_runs : ℕ → ℕ → List WordsAt → List WordsAt
onto_runs address word [] = record { address = address; words = word ∷ [] } ∷ []
onto_runs address word (s ∷ ss) =
    if s.address == address + 4 then record { address = address; words = word ∷ s.words } ∷ ss
    else record { address = address; words = word ∷ [] } ∷ s ∷ ss

-- the runs of words that stand in ascending order, each with its address
abbrev pub runs_of : List (ℕ × ℕ) → List WordsAt
runs_of [] = []
runs_of (e ∷ es) = onto_runs e.0 e.1 (runs_of es)

-- the words of segments, each with its address
abbrev pub words_in : List WordsAt → List (ℕ × ℕ)
words_in segments = flat_map (λ s. entries_from s.address s.words) segments

-- the first segment, if there is one, does not begin at an address
abbrev pub BeginsElsewhere : ℕ → List WordsAt → Type 0
BeginsElsewhere address [] = Unit {0}
BeginsElsewhere address (s ∷ ss) = s.address ≢ address

-- segments with words, none of which begins where the one before it ends
abbrev pub AreLongest : List WordsAt → Type 0
AreLongest [] = Unit {0}
AreLongest (s ∷ ss) = (0 < length s.words) × BeginsElsewhere (end_of s.address (length s.words)) ss × AreLongest ss

-- the runs of the set words of an image
abbrev pub runs_in : Boot → List WordsAt
runs_in boot = runs_of (map.entries boot.words)

-- the bytes that an image is written as: its spelling with these runs as segments
abbrev pub bytes_of_image : Boot → List ℕ
bytes_of_image boot = spelling boot (runs_in boot)
