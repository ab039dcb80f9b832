-- Ticks that only count, one after the other and many at once.
use Rattle.std.proofs.Common.{◌≡◌, ◌≢◌, ℕ, zero, suc, ◌+◌, ◌-◌, ◌<◌, ◌≤◌, Bool, true, false, not, ◌&&◌, List, [], ◌∷◌, map, slice_index, arith, sym, ap, refl, ◌∙◌, ◌⊎◌}
use Rattle.std.specs.Prelude.{find, Some, None, if◌then◌else◌, ◌==◌, cond}
use Rattle.std.proofs.Math.Path.{ap₂}
use Rattle.std.proofs.Math.Logic.{⊎_elim}
use Rattle.std.proofs.lemmas.Bool.{ne_eqb, eq-eqb, true≢false}
use Rattle.dz_serial.specs.declared.quiet.TheConstants.{FOREVER}
use Rattle.dz_serial.specs.Serial.{Serial, entry_of}
use Rattle.dz_serial.specs.Scan.{counted_down, is_ready, scan_order, next_ready, offered, scanned, ticked}
use Rattle.dz_serial.specs.Reads.{interrupt_line_of}
use Rattle.dz_serial.specs.Quiet.{after, passed, quiet_line, quiet_lines, quiet_of}

-- the part with these busy counts
abbrev with_busy : Serial → List ℕ → Serial
with_busy s counts = record s { busy = counts }

-- counts fall in parts as they do at once
fall_in_parts : (m n k : ℕ) → m + n ≡ k → (counts : List ℕ) → map (λ c. c - m) (map (λ c. c - n) counts) ≡ map (λ c. c - k) counts
fall_in_parts m n k e [] = refl
fall_in_parts m n k e (c ∷ later) = let first : c - n - m ≡ c - k = omega arith in ap₂ (λ x xs. x ∷ xs) first (fall_in_parts m n k e later)

pub passed_in_parts : (s : Serial) (m n : ℕ) → passed m (passed n s) ≡ passed (m + n) s
passed_in_parts s m n = ap (with_busy s) (fall_in_parts m n (m + n) refl s.busy)

-- counts after no ticks
fall_by_none : (counts : List ℕ) → map (λ c. c - 0) counts ≡ counts
fall_by_none [] = refl
fall_by_none (c ∷ later) = let first : c - 0 ≡ c = omega arith in ap₂ (λ x xs. x ∷ xs) first (fall_by_none later)

passed_none : (s : Serial) → passed 0 s ≡ s
passed_none s = ap (with_busy s) (fall_by_none s.busy)

-- one more tick counts
one_more : (s : Serial) (n : ℕ) → counted_down (passed n s) ≡ passed (n + 1) s
one_more s n = ap (with_busy s) (fall_in_parts 1 n (n + 1) (omega arith) s.busy)

-- a line's count
count_of : (counts : List ℕ) (n line : ℕ) → slice_index (map (λ c. c - n) counts) line ≡ slice_index counts line - n
count_of [] n line = omega arith
count_of (c ∷ later) n zero = refl
count_of (c ∷ later) n (suc line) = count_of later n line

-- whether a line is ready, by its count before
ready_by_count : (s : Serial) (n line : ℕ) → is_ready (passed n s) line ≡ (entry_of s.enabled line && (slice_index s.busy line - n == 0))
ready_by_count s n line = ap (λ (count : ℕ). entry_of s.enabled line && (count == 0)) (count_of s.busy n line)

-- a tick that is quiet for a line leaves it not ready, and the next one makes it ready
waits : (enabled : Bool) (count n : ℕ) → n < (if enabled then count - 1 else FOREVER) → (enabled && (count - (n + 1) == 0)) ≡ false
waits true count n h = ne_eqb (count - (n + 1)) 0 (λ e. absurd (omega arith))
waits false count n h = refl

readies : (enabled : Bool) (count n : ℕ) → (if enabled then count - 1 else FOREVER) ≤ n → n < FOREVER → (enabled && (count - (n + 1) == 0)) ≡ true
readies true count n h below = eq-eqb (count - (n + 1)) 0 (omega arith)
readies false count n h below = absurd (omega arith)

not_ready : (s : Serial) (n line : ℕ) → n < quiet_line s line → is_ready (passed (n + 1) s) line ≡ false
not_ready s n line h = ready_by_count s (n + 1) line ∙ waits (entry_of s.enabled line) (slice_index s.busy line) n h

now_ready : (s : Serial) (n line : ℕ) → quiet_line s line ≤ n → n < FOREVER → is_ready (passed (n + 1) s) line ≡ true
now_ready s n line h below = ready_by_count s (n + 1) line ∙ readies (entry_of s.enabled line) (slice_index s.busy line) n h below

-- what is found from a line on
found : (s : Serial) (line : ℕ) (later : List ℕ) (ready : Bool) → is_ready s line ≡ ready
    → find (is_ready s) (line ∷ later) ≡ cond ready (Some line) (find (is_ready s) later)
found s line later ready e = ap (λ (b : Bool). cond b (Some line) (find (is_ready s) later)) e

-- no line is ready in a tick that is quiet for all of them
none_found : (s : Serial) (n : ℕ) (lines : List ℕ) → n < quiet_lines s lines → find (is_ready (passed (n + 1) s)) lines ≡ None
none_found s n [] h = refl
none_found s n (line ∷ later) h =
    found (passed (n + 1) s) line later false (not_ready s n line (omega arith)) ∙ none_found s n later (omega arith)

le_or_lt : (a n : ℕ) → (a ≤ n) ⊎ (n < a)
le_or_lt a n = grind arith

-- a line is ready in a tick that is not
one_found : (s : Serial) (n : ℕ) (lines : List ℕ) → quiet_lines s lines ≤ n → n < FOREVER
    → (line : ℕ) × (find (is_ready (passed (n + 1) s)) lines ≡ Some line)
one_found s n [] h below = absurd (omega arith)
one_found s n (line ∷ later) h below =
    ⊎_elim
    (λ (l : quiet_line s line ≤ n). (line, found (passed (n + 1) s) line later true (now_ready s n line l below)))
    (λ (l : n < quiet_line s line).
    let rest = one_found s n later (omega arith) below in
    (rest.0, found (passed (n + 1) s) line later false (not_ready s n line l) ∙ rest.1))
    (le_or_lt (quiet_line s line) n)

-- what the scanner does, where it goes on or not
abbrev scanned_where : Bool → Serial → Serial
scanned_where goes s = if goes then offered s (next_ready s) else s

abbrev quiet_where : Bool → Serial → ℕ
quiet_where goes s = if goes then quiet_lines s (scan_order s.last_served) else FOREVER

rests : (s : Serial) (n : ℕ) (goes : Bool) → n < quiet_where goes s → scanned_where goes (passed (n + 1) s) ≡ passed (n + 1) s
rests s n true h = ap (offered (passed (n + 1) s)) (none_found s n (scan_order s.last_served) h)
rests s n false h = refl

-- a quiet tick only counts
quiet_tick : (s : Serial) (n : ℕ) → n < quiet_of s → ticked (passed n s) ≡ passed (n + 1) s
unfolding ticked quiet_of
quiet_tick s n h = ap scanned (one_more s n) ∙ rests s n (s.mse && not s.trdy) h

pub passes : (s : Serial) (n : ℕ) → n ≤ quiet_of s → after n s ≡ passed n s
unfolding after
passes s zero h = sym (passed_none s)
passes s (suc n) h =
    let more : n + 1 ≡ suc n = omega arith in
    ap ticked (passes s n (omega arith)) ∙ (quiet_tick s n (omega arith) ∙ ap (λ (k : ℕ). passed k s) more)

pub line_stays : (s : Serial) (n : ℕ) → n ≤ quiet_of s → interrupt_line_of (after n s) ≡ interrupt_line_of s
line_stays s n h = ap (λ (t : Serial). interrupt_line_of t) (passes s n h)

-- TRDY is 0 where the scanner goes on
off : (mse trdy : Bool) → (mse && not trdy) ≡ true → trdy ≡ false
off mse false e = refl
off true true e = sym e
off false true e = sym e

-- the tick after the quiet ones raises TRDY
raises : (s : Serial) (n : ℕ) (goes : Bool) → (s.mse && not s.trdy) ≡ goes → quiet_where goes s ≤ n → n < FOREVER
    → scanned_where goes (passed (n + 1) s) ≢ passed (n + 1) s
raises s n true is h below same =
    let line = one_found s n (scan_order s.last_served) h below in
    let up = ap (offered (passed (n + 1) s)) line.1 in
    true≢false (ap (λ (t : Serial). t.trdy) (sym up ∙ same) ∙ off s.mse s.trdy is)
raises s n false is h below same = absurd (omega arith)

pub greatest : (s : Serial) → quiet_of s < FOREVER → ticked (passed (quiet_of s) s) ≢ passed (quiet_of s + 1) s
unfolding ticked quiet_of
greatest s below same =
    let n = quiet_of s in
    raises s n (s.mse && not s.trdy) refl (omega arith) below (ap scanned (sym (one_more s n)) ∙ same)

pub next_is : (s : Serial) (n : ℕ) → after (n + 1) s ≡ ticked (after n s)
unfolding after
next_is s n = let e : n + 1 ≡ suc n = omega arith in ap (λ (k : ℕ). after k s) e

pub in_parts : (s : Serial) (m n : ℕ) → after (m + n) s ≡ after m (after n s)
unfolding after
in_parts s zero n = let e : 0 + n ≡ n = omega arith in ap (λ (k : ℕ). after k s) e
in_parts s (suc m) n =
    let e : suc m + n ≡ suc (m + n) = omega arith in
    ap (λ (k : ℕ). after k s) e ∙ ap ticked (in_parts s m n)

-- after a part of the quiet ticks the rest are quiet
line_stays_quiet : (enabled : Bool) (count left m n : ℕ) → left ≡ count - n → m + n ≤ (if enabled then count - 1 else FOREVER)
    → m ≤ (if enabled then left - 1 else FOREVER)
line_stays_quiet true count left m n e h = omega arith
line_stays_quiet false count left m n e h = omega arith

lines_stay_quiet : (s : Serial) (m n : ℕ) (lines : List ℕ) → m + n ≤ quiet_lines s lines → m ≤ quiet_lines (passed n s) lines
lines_stay_quiet s m n [] h = omega arith
lines_stay_quiet s m n (line ∷ later) h =
    let here : m ≤ quiet_line (passed n s) line =
    line_stays_quiet (entry_of s.enabled line) (slice_index s.busy line) _ m n (count_of s.busy n line) (omega arith) in
    let rest = lines_stay_quiet s m n later (omega arith) in
    omega arith

stays_where : (s : Serial) (m n : ℕ) (goes : Bool) → m + n ≤ quiet_where goes s → m ≤ quiet_where goes (passed n s)
stays_where s m n true h = lines_stay_quiet s m n (scan_order s.last_served) h
stays_where s m n false h = omega arith

pub stays_quiet : (s : Serial) (m n : ℕ) → m + n ≤ quiet_of s → m ≤ quiet_of (passed n s)
unfolding quiet_of
stays_quiet s m n h = stays_where s m n (s.mse && not s.trdy) h
