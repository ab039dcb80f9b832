-- Lists of answers, one more at a time.
use Rattle.std.proofs.Common.{◌≡◌, inl, inr, ℕ, zero, suc, ◌+◌, ◌-◌, ◌*◌, ◌%◌, ◌<◌, ◌≤◌, Bool, true, false, if◌then◌else◌, List, [], ◌∷◌, ◌++◌, map, append_assoc, length, drop, Option, Some, None, Result, Ok, Err, slice_get, refl, sym, ap, ◌∙◌, subst, arith, add-one}
use Rattle.std.specs.FinMap as words
use Rattle.std.specs.Option.{is_some, ok_or}
use Rattle.std.specs.Result.{is_ok}
use Rattle.std.proofs.lemmas.Bool.{eq-eqb, le-leb, true≢false}
use Rattle.std.proofs.lemmas.List.{append-nil, get_or-drop, length-drop, map-append, take_all, take_more}
use Rattle.std.proofs.lemmas.Option.{get_or_from_slice_get, slice_get_within}
use Rattle.input_log.specs.Limits.{max_position}
use Rattle.r3k_machine.specs.declared.step.Done.{Done}
use Rattle.r3k_machine.specs.Core.{Core}
use Rattle.r3k_machine.specs.Run.{byte_on, last_where, last_writer, later, senders_of, state_at, trace_at, with_sender, writes}
use Rattle.r3k_machine.specs.declared.target.Target.TheVariants.{Memory as Word}
use Rattle.r3k_machine.proofs.Splits.{trace_count}
use Rattle.r3k_word.specs.Layout.{place_of_word}
use Rattle.refusal.specs.Given.{GivesFault}
use Rattle.refusal.specs.declared.fault.Fault.{Fault}
use Rattle.refusal.specs.declared.fault.Fault.TheVariants.{Memory, NotFound, Range, Unaligned}
use Rattle.timeline.proofs.Plain.{near_given, writer_given}
use Rattle.timeline.specs.Console.{part_of}
use Rattle.timeline.specs.History.{History}
use Rattle.timeline.specs.Query.{core_at, of_place, sent_at, up_to_max, writer_at, writer_of}
use Rattle.timeline.specs.declared.writer.Writer.{Writer}
use Rattle.timeline.specs.declared.writer.Writer.TheVariants.{Step, Image, Never}
use Rattle.wb_session.specs.Lists.{and_before, pc_of, pcs_at, pcs_from, positions_from, senders_at, store_of, stores_at, stores_before}
use Rattle.wb_text.specs.declared.lists.Timed.{Timed}

some_is : (a b : ℕ) → Some a ≡ Some b → a ≡ b
some_is a b is = ap (λ (o : Option ℕ). value_or o) is
  where
    value_or : Option ℕ → ℕ
    value_or None = 0
    value_or (Some value) = value

-- who wrote last, by what is answered
is_step : Writer → Bool
is_step (Step step) = true
is_step Image = false
is_step Never = false

step_of : Writer → ℕ
step_of (Step step) = step
step_of Image = 0
step_of Never = 0

given_of : Result Writer Fault → Writer
given_of (Ok writer) = writer
given_of (Err fault) = Never

step_is : (o set : Option ℕ) (step : ℕ) → writer_of o set ≡ Step step → o ≡ Some step
unfolding is_step step_of
step_is (Some found) set step is = ap (λ (n : ℕ). Some n) (ap step_of is)
step_is None (Some word) step is = absurd (true≢false (ap is_step (sym is)))
step_is None None step is = absurd (true≢false (ap is_step (sym is)))

none_is : (o set : Option ℕ) (writer : Writer) → is_step writer ≡ false → writer_of o set ≡ writer → o ≡ None
unfolding is_step
none_is None set writer other is = refl
none_is (Some found) set writer other is = absurd (true≢false (ap is_step is ∙ other))

pub stored_by : (pages : ℕ) (h : History) (position address step : ℕ) → position ≤ max_position → address % 4 ≡ 0 → is_some (place_of_word pages address) ≡ true
    → writer_at pages h position address ≡ Ok (Step step) → last_writer (Word address) (trace_at pages h.image h.log position) ≡ Some step
unfolding given_of
stored_by pages h position address step near even there given =
    step_is _ (words.get h.image.words address) step (ap given_of (sym (writer_given pages h position address near even there) ∙ given))

not_stored : (pages : ℕ) (h : History) (position address : ℕ) (writer : Writer) → is_step writer ≡ false → position ≤ max_position → address % 4 ≡ 0
    → is_some (place_of_word pages address) ≡ true → writer_at pages h position address ≡ Ok writer → last_writer (Word address) (trace_at pages h.image h.log position) ≡ None
unfolding given_of
not_stored pages h position address writer other near even there given =
    none_is _ (words.get h.image.words address) writer other (ap given_of (sym (writer_given pages h position address near even there) ∙ given))

pub by_image : (pages : ℕ) (h : History) (position address : ℕ) → position ≤ max_position → address % 4 ≡ 0 → is_some (place_of_word pages address) ≡ true
    → writer_at pages h position address ≡ Ok Image → last_writer (Word address) (trace_at pages h.image h.log position) ≡ None
unfolding is_step
by_image pages h position address near even there given = not_stored pages h position address Image refl near even there given

pub by_nobody : (pages : ℕ) (h : History) (position address : ℕ) → position ≤ max_position → address % 4 ≡ 0 → is_some (place_of_word pages address) ≡ true
    → writer_at pages h position address ≡ Ok Never → last_writer (Word address) (trace_at pages h.image h.log position) ≡ None
unfolding is_step
by_nobody pages h position address near even there given = not_stored pages h position address Never refl near even there given

pub only_memory_writer : (pages : ℕ) (h : History) (position address : ℕ) (fault : Fault) → position ≤ max_position → address % 4 ≡ 0
    → is_some (place_of_word pages address) ≡ true → GivesFault (writer_at pages h position address) fault → fault ≡ Memory
only_memory_writer pages h position address fault near even there (inl same) =
    absurd (true≢false (ap (λ (r : Result Writer Fault). is_ok r) (sym (writer_given pages h position address near even there) ∙ same)))
only_memory_writer pages h position address fault near even there (inr lacks) = lacks.0

-- a last writer is one of the steps before the position
here_within : (here : Bool) (k n : ℕ) → (if here then Some 0 else None) ≡ Some k → k < suc n
here_within true k n is = (let first : 0 ≡ k = some_is 0 k is in omega (arith, first))
here_within false k n is = absurd (true≢false (ap (λ (o : Option ℕ). is_some o) (sym is)))

where_within : (test : Done → Bool) (steps : List Done) (k : ℕ) → last_where test steps ≡ Some k → k < length steps
where_within test [] k is = absurd (true≢false (ap (λ (o : Option ℕ). is_some o) (sym is)))
where_within test (done ∷ steps) k is = by_rest (last_where test steps) (λ p. where_within test steps p) is
  where
    by_rest : (rest : Option ℕ) → ((p : ℕ) → rest ≡ Some p → p < length steps) → later 1 rest (if test done then Some 0 else None) ≡ Some k → k < suc (length steps)
    by_rest None before is = here_within (test done) k (length steps) is
    by_rest (Some p) before is = omega (arith, before p refl, some_is (1 + p) k is)

pub before_position : (pages : ℕ) (h : History) (position address step : ℕ) → last_writer (Word address) (trace_at pages h.image h.log position) ≡ Some step → step < position
before_position pages h position address step is =
    subst (λ (n : ℕ). step < n) (trace_count pages h.log 0 _ position) (where_within (writes (Word address)) (trace_at pages h.image h.log position) step is)

-- the stores, where there is one more, and where there is none
pub stores_more : (pages : ℕ) (h : History) (address place count position step : ℕ) → last_writer (Word address) (trace_at pages h.image h.log position) ≡ Some step
    → stores_before pages h address place (count + 1) position ≡ store_of pages h place step ∷ stores_before pages h address place count step
unfolding stores_before
stores_more pages h address place count position step is =
    let next : stores_before pages h address place (suc count) position
    ≡ and_before (last_writer (Word address) (trace_at pages h.image h.log position)) (λ step. store_of pages h place step ∷ stores_before pages h address place count step) = refl in
    ap (λ (n : ℕ). stores_before pages h address place n position) (let e : count + 1 ≡ suc count = omega arith in e)
    ∙ (next ∙ ap (λ (o : Option ℕ). and_before o (λ step. store_of pages h place step ∷ stores_before pages h address place count step)) is)

pub stores_none : (pages : ℕ) (h : History) (address place count position : ℕ) → last_writer (Word address) (trace_at pages h.image h.log position) ≡ None
    → stores_before pages h address place count position ≡ []
unfolding stores_before
stores_none pages h address place zero position is = refl
stores_none pages h address place (suc count) position is =
    ap (λ (o : Option ℕ). and_before o (λ step. store_of pages h place step ∷ stores_before pages h address place count step)) is

pub stores_zero : (pages : ℕ) (h : History) (address place position : ℕ) → stores_before pages h address place 0 position ≡ []
unfolding stores_before
stores_zero pages h address place position = refl

-- bytes of a line: at most as many as there are steps
with_sender_few : (step : ℕ) (sent : Option ℕ) (later : List ℕ) (n : ℕ) → length later ≤ n → length (with_sender step sent later) ≤ suc n
with_sender_few step None later n few = omega (arith, few)
with_sender_few step (Some byte) later n few = omega (arith, few)

senders_few : (line first : ℕ) (steps : List Done) → length (senders_of line first steps) ≤ length steps
senders_few line first [] = omega arith
senders_few line first (done ∷ steps) = with_sender_few first (byte_on line done.sent) (senders_of line (suc first) steps) (length steps) (senders_few line (suc first) steps)

pub senders_within : (pages : ℕ) (h : History) (line position : ℕ) → length (senders_of line 0 (trace_at pages h.image h.log position)) ≤ position
senders_within pages h line position =
    subst (λ (n : ℕ). length (senders_of line 0 (trace_at pages h.image h.log position)) ≤ n) (trace_count pages h.log 0 _ position)
    (senders_few line 0 (trace_at pages h.image h.log position))

-- what is given of the sender of a byte
sender_given : (pages : ℕ) (h : History) (position line place : ℕ) → line ≤ 3 → position ≤ max_position
    → sent_at pages h position line place ≡ ok_or (slice_get (senders_of line 0 (trace_at pages h.image h.log position)) place) NotFound
sender_given pages h position line place low near =
    let answer : Result ℕ Fault = ok_or (slice_get (senders_of line 0 (trace_at pages h.image h.log position)) place) NotFound in
    ap (λ (low : Bool). if low then up_to_max position answer else Err Range) (le-leb line 3 low) ∙ near_given position answer near

option_of : Result ℕ Fault → Option ℕ
option_of (Ok value) = Some value
option_of (Err fault) = None

found_is : (o : Option ℕ) → option_of (ok_or o NotFound) ≡ o
unfolding option_of
found_is None = refl
found_is (Some value) = refl

pub sender_is : (pages : ℕ) (h : History) (position line place step : ℕ) → line ≤ 3 → position ≤ max_position → sent_at pages h position line place ≡ Ok step
    → slice_get (senders_of line 0 (trace_at pages h.image h.log position)) place ≡ Some step
unfolding option_of
sender_is pages h position line place step low near given =
    sym (found_is _) ∙ ap option_of (sym (sender_given pages h position line place low near) ∙ given)

memory_or_none : (o : Option ℕ) (fault : Fault) → GivesFault (ok_or o NotFound) fault → (fault ≡ NotFound → o ≡ None) × ((fault ≡ NotFound → ⊥) → fault ≡ Memory)
memory_or_none None fault (inl same) = (λ _. refl, λ no. absurd (no (sym (ap fault_of same))))
  where
    fault_of : Result ℕ Fault → Fault
    fault_of (Ok value) = Memory
    fault_of (Err fault) = fault
memory_or_none (Some value) fault (inl same) = absurd (true≢false (ap (λ (r : Result ℕ Fault). is_ok r) same))
memory_or_none None fault (inr lacks) = (λ _. refl, λ _. lacks.0)
memory_or_none (Some value) fault (inr lacks) = (λ is. absurd (not_both (sym lacks.0 ∙ is)), λ _. lacks.0)
  where
    is_memory : Fault → Bool
    is_memory Memory = true
    is_memory fault = false

    not_both : Memory ≡ NotFound → ⊥
    not_both same = true≢false (ap is_memory same)

pub only_memory_sender : (pages : ℕ) (h : History) (position line place : ℕ) (fault : Fault) → line ≤ 3 → position ≤ max_position
    → (fault ≡ NotFound → ⊥) → GivesFault (sent_at pages h position line place) fault → fault ≡ Memory
only_memory_sender pages h position line place fault low near other given =
    (memory_or_none _ fault (subst (λ (r : Result ℕ Fault). GivesFault r fault) (sender_given pages h position line place low near) given)).1 other

pub senders_given : (pages : ℕ) (h : History) (position line place count : ℕ) → line ≤ 3 → position ≤ max_position
    → senders_at pages h position line place count ≡ Ok (part_of place count (senders_of line 0 (trace_at pages h.image h.log position)))
senders_given pages h position line place count low near =
    let answer : Result (List ℕ) Fault = Ok (part_of place count (senders_of line 0 (trace_at pages h.image h.log position))) in
    ap (λ (low : Bool). if low then up_to_max position answer else Err Range) (le-leb line 3 low) ∙ near_given position answer near

-- one more of a part, and none
pub part_more : (xs : List ℕ) (from more x : ℕ) → slice_get xs (from + more) ≡ Some x → part_of from (more + 1) xs ≡ part_of from more xs ++ x ∷ []
part_more xs from more x is =
    let inside = slice_get_within xs (from + more) x is in
    take_more (drop from xs) more 0 (let e = length-drop from xs in omega (arith, e, inside))
    ∙ ap (λ (y : ℕ). part_of from more xs ++ y ∷ []) (get_or-drop from xs more 0 ∙ get_or_from_slice_get xs (from + more) x 0 is)

pub part_end : (xs : List ℕ) (from more count : ℕ) → length xs ≤ from + more → more ≤ count → part_of from count xs ≡ part_of from more xs
part_end xs from more count past within =
    let rest = length-drop from xs in
    take_all count (drop from xs) (omega (arith, rest, past, within)) ∙ sym (take_all more (drop from xs) (omega (arith, rest, past)))

-- positions that are some distance apart, one more
pub positions_zero : (position distance : ℕ) → positions_from position distance 0 ≡ []
unfolding positions_from
positions_zero position distance = refl

pub positions_more : (position distance count : ℕ)
    → positions_from position distance (count + 1) ≡ positions_from position distance count ++ (position + count * distance) ∷ []
unfolding positions_from
positions_more position distance count = rw add-one refl

-- the first of them stand at the front
pub positions_front : (position distance count more : ℕ)
    → (rest : List ℕ) × (positions_from position distance count ++ rest ≡ positions_from position distance (count + more))
positions_front position distance count zero =
    ([], append-nil (positions_from position distance count) ∙ ap (positions_from position distance) (let e : count ≡ count + 0 = omega arith in e))
positions_front position distance count (suc more) =
    let front = positions_front position distance count more in
    let last : List ℕ = (position + (count + more) * distance) ∷ [] in (
      front.0 ++ last,
      sym (append_assoc (positions_from position distance count) front.0 last)
          ∙ (ap (λ (xs : List ℕ). xs ++ last) front.1
          ∙ (sym (positions_more position distance (count + more))
          ∙ ap (positions_from position distance) (let e : count + more + 1 ≡ count + suc more = omega arith in e))),
    )

-- the PC at positions, one more
pub pcs_zero : (pages : ℕ) (h : History) (position distance : ℕ) → pcs_from pages h position distance 0 ≡ []
pcs_zero pages h position distance = ap (map (pc_of pages h)) (positions_zero position distance)

pub pcs_more : (pages : ℕ) (h : History) (position distance count : ℕ)
    → pcs_from pages h position distance (count + 1) ≡ pcs_from pages h position distance count ++ pc_of pages h (position + count * distance) ∷ []
pcs_more pages h position distance count =
    ap (map (pc_of pages h)) (positions_more position distance count)
    ∙ map-append (pc_of pages h) (positions_from position distance count) ((position + count * distance) ∷ [])

-- the PC, where the processor is given
pc_or : Result Core Fault → ℕ
pc_or (Ok core) = core.pc
pc_or (Err fault) = 0

pub pc_is : (pages : ℕ) (h : History) (position : ℕ) (core : Core) → position ≤ max_position → core_at pages h position ≡ Ok core
    → (state_at pages h.image h.log position).core.pc ≡ core.pc
unfolding pc_or
pc_is pages h position core near given =
    let answer : Result Core Fault = Ok (state_at pages h.image h.log position).core in
    ap pc_or (sym (near_given position answer near) ∙ given)

pub only_memory_core : (pages : ℕ) (h : History) (position : ℕ) (fault : Fault) → position ≤ max_position → GivesFault (core_at pages h position) fault → fault ≡ Memory
only_memory_core pages h position fault near (inl same) =
    let answer : Result Core Fault = Ok (state_at pages h.image h.log position).core in
    absurd (true≢false (ap (λ (r : Result Core Fault). is_ok r) (sym (near_given position answer near) ∙ same)))
only_memory_core pages h position fault near (inr lacks) = lacks.0

pub pcs_given : (pages : ℕ) (h : History) (position distance count : ℕ) → position + (count - 1) * distance ≤ max_position
    → pcs_at pages h position distance count ≡ Ok (pcs_from pages h position distance count)
pcs_given pages h position distance count near =
    let answer : Result (List Timed) Fault = Ok (pcs_from pages h position distance count) in
    near_given (position + (count - 1) * distance) answer near

-- a word's place, and the stores into it
pub some_place : (o : Option ℕ) → is_some o ≡ true → (place : ℕ) × (o ≡ Some place)
some_place None there = absurd (true≢false (sym there))
some_place (Some place) there = (place, refl)

pub stores_given : (pages : ℕ) (h : History) (position address place count : ℕ) → position ≤ max_position → address % 4 ≡ 0 → place_of_word pages address ≡ Some place
    → stores_at pages h position address count ≡ Ok (stores_before pages h address place count position)
stores_given pages h position address place count near even placed =
    let answer : ℕ → Result (List Timed) Fault = λ place. up_to_max position (Ok (stores_before pages h address place count position)) in
    let shown : Result (List Timed) Fault = Ok (stores_before pages h address place count position) in
    ap (λ (even : Bool). if even then of_place (place_of_word pages address) answer else Err Unaligned) (eq-eqb (address % 4) 0 even)
    ∙ (ap (λ (o : Option ℕ). of_place o answer) placed ∙ near_given position shown near)
