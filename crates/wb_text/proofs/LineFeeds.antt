-- Replies end with a line feed.
use Rattle.std.proofs.Common.{ℕ, zero, suc, ◌+◌, ◌*◌, ◌%◌, ◌^◌, ◌<◌, Bool, true, false, length, slice_index, arith, List, [], ◌∷◌, ◌++◌, refl, subst, sym, ap, ◌∙◌, append_assoc, append-nil, codes}
use Rattle.std.specs.Prelude.{flat_map}
use Rattle.std.specs.Fmt.{decimal}
use Rattle.wb_text.specs.Text.{line, numbered, value_text}
use Rattle.wb_text.specs.Jumps.{jump_text}
use Rattle.wb_text.specs.Trace.{step_text}
use Rattle.wb_text.specs.Lists.{sender_text, timed_text}
use Rattle.wb_text.specs.Devices.{board_text, clock_text, devices_text, line_text, serial_text, silo_text}
use Rattle.wb_text.specs.declared.devices.Devices.{Devices as AllDevices}
use Rattle.wb_text.specs.Reply.{EndsWithLineFeed, HasText, text_of, state_text, row_text, rows_text, refusal_text, register_writer_text, control_text, entry_text, where_text, memory_text, words_text, console_text, writer_text, event_text}
use Rattle.wb_text.specs.declared.reply.Reply.{Reply}
use Rattle.wb_text.specs.declared.reply.Reply.TheVariants.{Position, Registers, Register, Control, Entry, Where, Memory, Instructions, Console, Found, Writer, Stores, Finds, RegisterWriter, Pcs, Devices, Trace, Jumps, Log, Event, Left, Patched, Nothing, Fault}
use Rattle.wb_text.proofs.Rows.{rows_text-more}

-- a text before a line changes nothing at its end
beyond : (front text : List ℕ) → EndsWithLineFeed text → EndsWithLineFeed (front ++ text)
beyond front text ends = (front ++ ends.0, ap (λ t. front ++ t) ends.1 ∙ sym (append_assoc front ends.0 (10 ∷ [])))

rows_end : (registers : List ℕ) (row : ℕ) → EndsWithLineFeed (rows_text registers (row + 1))
rows_end registers row =
    let P : List ℕ → Type 0 = EndsWithLineFeed in
    subst P (sym (rows_text-more registers row)) (beyond (rows_text registers row) (line (row_text registers (4 * row))) (row_text registers (4 * row), refl))

words_end : (instruction : Bool) (address : ℕ) (words : List ℕ) (count : ℕ) → 0 < count → EndsWithLineFeed (words_text instruction address words count)
unfolding words_text
words_end instruction address words zero some = absurd ((let none : 0 < 0 → ⊥ = λ h. omega (arith, h) in none) some)
words_end instruction address words (suc place) some =
    let last : List ℕ = memory_text instruction ((address + 4 * place) % 2 ^ 32) (slice_index words place) in
    beyond (words_text instruction address words place) (line last) (last, refl)

-- after a line, numbered lines end with a line feed, or there are none
numbered_end : {A : Type 0} (text : ℕ → A → List ℕ) (front : List ℕ) (number : ℕ) (items : List A) → EndsWithLineFeed (line front ++ numbered text number items)
unfolding numbered
numbered_end text front number [] = (front, append-nil (line front))
numbered_end text front number (item ∷ items) =
    beyond (line front) (numbered text number (item ∷ items)) (numbered_end text (text number item) ((number + 1) % 2 ^ 64) items)

some_end : {A : Type 0} (text : ℕ → A → List ℕ) (number : ℕ) (items : List A) → 0 < length items → EndsWithLineFeed (numbered text number items)
unfolding numbered
some_end text number [] some = absurd ((let none : 0 < 0 → ⊥ = λ h. omega (arith, h) in none) some)
some_end text number (item ∷ items) some = numbered_end text (text number item) ((number + 1) % 2 ^ 64) items

-- and so do the lines of a list
lines_end : {A : Type 0} (text : A → List ℕ) (front : List ℕ) (items : List A) → EndsWithLineFeed (line front ++ flat_map (λ item. line (text item)) items)
lines_end text front [] = (front, append-nil (line front))
lines_end text front (item ∷ items) =
    beyond (line front) (flat_map (λ i. line (text i)) (item ∷ items)) (lines_end text (text item) items)

devices_end : (d : AllDevices) → EndsWithLineFeed (devices_text d)
unfolding devices_text
devices_end d = (
  line (serial_text d.serial) ++ (numbered line_text 0 d.lines ++ (line (silo_text d.silo.items) ++ (line (clock_text d.clock) ++ board_text d.board))),
  simp append_assoc,
)

pub ends_with_line_feed : (reply : Reply) → HasText reply → EndsWithLineFeed (text_of reply)
ends_with_line_feed (Position position) some = (codes "pos " ++ decimal position, refl)
ends_with_line_feed (Registers r) some = beyond (line (state_text r)) (rows_text r.registers 8) (rows_end r.registers 7)
ends_with_line_feed (Register number value) some = (value_text number value, refl)
ends_with_line_feed (Control c) some = (control_text c, refl)
ends_with_line_feed (Entry number hi lo) some = (entry_text number hi lo, refl)
ends_with_line_feed (Where place) some = (where_text place, refl)
ends_with_line_feed (Memory w) some = words_end false w.address w.words.items (length w.words.items) some
ends_with_line_feed (Instructions w) some = words_end true w.address w.words.items (length w.words.items) some
ends_with_line_feed (Console number total bytes) some = (console_text number total bytes.items, refl)
ends_with_line_feed (Found step) some = (codes "find " ++ decimal step, refl)
ends_with_line_feed (Writer writer) some = (writer_text writer, refl)
ends_with_line_feed (Stores stores) some = lines_end timed_text (codes "stores " ++ decimal (length stores.items)) stores.items
ends_with_line_feed (Finds first steps) some = numbered_end sender_text (codes "finds " ++ decimal (length steps.items)) first steps.items
ends_with_line_feed (RegisterWriter step) some = (register_writer_text step, refl)
ends_with_line_feed (Pcs pcs) some = lines_end timed_text (codes "pcs " ++ decimal (length pcs.items)) pcs.items
ends_with_line_feed (Devices d) some = devices_end d
ends_with_line_feed (Trace first steps) some = some_end step_text first steps.items some
ends_with_line_feed (Jumps next jumps) some =
    lines_end jump_text (codes "jumps " ++ decimal (length jumps.items) ++ codes " " ++ decimal next) jumps.items
ends_with_line_feed (Log total first events) some = numbered_end event_text (codes "log " ++ decimal total) first events.items
ends_with_line_feed (Event number) some = (codes "event " ++ decimal number, refl)
ends_with_line_feed (Left total) some = (codes "log " ++ decimal total, refl)
ends_with_line_feed Patched some = (codes "ok", refl)
ends_with_line_feed Nothing some = absurd some
ends_with_line_feed (Fault fault) some = (refusal_text fault, refl)
