-- Lists that a session shows (own): each repeats a question.
use Rattle.std.specs.Prelude.{ℕ, zero, suc, ◌+◌, ◌-◌, ◌*◌, List, [], ◌∷◌, ◌++◌, map, Option, Some, None, Result, Ok, Err, slice_index}
use Rattle.r3k_machine.specs.Run.{last_writer, senders_of, state_at, trace_at}
use Rattle.r3k_machine.specs.declared.target.Target.TheVariants.{Memory}
use Rattle.refusal.specs.declared.fault.Fault.{Fault}
use Rattle.timeline.specs.Console.{part_of}
use Rattle.timeline.specs.History.{History}
use Rattle.timeline.specs.Query.{of_line, of_word, up_to_max}
use Rattle.wb_text.specs.declared.lists.Timed.{Timed}

-- a store: its step, and the word after it
abbrev pub store_of : (pages : ℕ) → History → (place step : ℕ) → Timed
store_of pages h place step = record { time = step; word = slice_index (state_at pages h.image h.log (step + 1)).words place }

-- a store, if there is one, in front of those before it
abbrev pub and_before : Option ℕ → (ℕ → List Timed) → List Timed
and_before None before = []
and_before (Some step) before = before step

-- The last stores into a word before a position, at most `count`, the last one first: each is the last writer before the one in front of it.
unfoldable pub stores_before : (pages : ℕ) → History → (address place count position : ℕ) → List Timed
stores_before pages h address place zero position = []
stores_before pages h address place (suc count) position =
    and_before (last_writer (Memory address) (trace_at pages h.image h.log position))
    (λ step. store_of pages h place step ∷ stores_before pages h address place count step)

abbrev pub stores_at : ℕ → History → (position address count : ℕ) → Result (List Timed) Fault
stores_at pages h position address count =
    of_word pages address (λ place. up_to_max position (Ok (stores_before pages h address place count position)))

-- the positions whose states it takes to show stores: that after each, the last one first
abbrev pub states_after : Result (List Timed) Fault → List ℕ
states_after (Ok stores) = map (λ store. store.time + 1) stores
states_after (Err fault) = []

-- the steps that sent the bytes of a line before a position, from the byte at a place on, at most `count`
abbrev pub senders_at : ℕ → History → (position line place count : ℕ) → Result (List ℕ) Fault
senders_at pages h position line place count =
    of_line line (up_to_max position (Ok (part_of place count (senders_of line 0 (trace_at pages h.image h.log position)))))

-- the first `count` of positions that are `distance` apart
unfoldable pub positions_from : (position distance count : ℕ) → List ℕ
positions_from position distance zero = []
positions_from position distance (suc count) = positions_from position distance count ++ (position + count * distance) ∷ []

-- the PC at a position, and at such positions
abbrev pub pc_of : (pages : ℕ) → History → (position : ℕ) → Timed
pc_of pages h position = record { time = position; word = (state_at pages h.image h.log position).core.pc }

abbrev pub pcs_from : (pages : ℕ) → History → (position distance count : ℕ) → List Timed
pcs_from pages h position distance count = map (pc_of pages h) (positions_from position distance count)

abbrev pub pcs_at : ℕ → History → (position distance count : ℕ) → Result (List Timed) Fault
pcs_at pages h position distance count = up_to_max (position + (count - 1) * distance) (Ok (pcs_from pages h position distance count))

-- the positions whose states it takes to show those PCs: the last one first, and then the others in order
abbrev pub states_apart : (position distance count : ℕ) → List ℕ
states_apart position distance count = (position + (count - 1) * distance) ∷ positions_from position distance (count - 1)
