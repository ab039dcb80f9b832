-- Plain answers of queries whose numbers are good.
use Rattle.std.proofs.Common.{◌≡◌, ℕ, ◌%◌, ◌&&◌, ◌≤◌, Bool, true, List, if◌then◌else◌, Option, Some, None, Result, Ok, Err, nat_le, slice_index, refl, ap, ◌∙◌}
use Rattle.std.proofs.lemmas.Bool.{eq-eqb, false≢true, le-leb}
use Rattle.std.specs.FinMap as map
use Rattle.std.specs.Option.{is_some}
use Rattle.r3k_word.specs.Layout.{place_of_word}
use Rattle.r3k_machine.specs.declared.target.Target.TheVariants.{Memory}
use Rattle.r3k_machine.specs.Run.{console_of, last_writer, state_at, trace_at}
use Rattle.refusal.specs.declared.fault.Fault.{Fault}
use Rattle.refusal.specs.declared.fault.Fault.TheVariants.{Range, TooFar, Unaligned}
use Rattle.present_run.specs.Console.{shown_of}
use Rattle.input_log.specs.Limits.{max_position}
use Rattle.present_run.specs.History.{History}
use Rattle.timeline.specs.Query.{console_at, of_place, of_word, up_to_max, word_at, writer_at, writer_of}
use Rattle.timeline.specs.declared.writer.Writer.{Writer}

-- an answer at a position that is not too far
pub near_given : {A : Type 0} (position : ℕ) (answer : Result A Fault) → position ≤ max_position → up_to_max position answer ≡ answer
near_given position answer near = ap (λ (near : Bool). if near then answer else Err TooFar) (le-leb position max_position near)

-- an answer of an existing word
pub there_given : {A : Type 0} (pages address place : ℕ) (answer : ℕ → Result A Fault) → address % 4 ≡ 0 → place_of_word pages address ≡ Some place
    → of_word pages address answer ≡ answer place
there_given pages address place answer even some =
    ap (λ (even : Bool). if even then of_place (place_of_word pages address) answer else Err Unaligned) (eq-eqb (address % 4) 0 even)
    ∙ ap (λ (o : Option ℕ). of_place o answer) some

-- the word at a place
pub word_given : (pages : ℕ) (h : History) (position address place : ℕ) → position ≤ max_position → address % 4 ≡ 0
    → place_of_word pages address ≡ Some place → word_at pages h position address ≡ Ok (slice_index (state_at pages h.image h.log position).words place)
word_given pages h position address place near even some =
    there_given pages address place (λ place. up_to_max position (Ok (slice_index (state_at pages h.image h.log position).words place))) even some
    ∙ near_given position (Ok (slice_index (state_at pages h.image h.log position).words place)) near

-- what is shown of a console
pub console_given : (pages : ℕ) (h : History) (position line from count : ℕ) → position ≤ max_position → line ≤ 3 → 1 ≤ count → count ≤ 256
    → console_at pages h position line from count ≡ Ok (shown_of from count (console_of line (trace_at pages h.image h.log position)))
console_given pages h position line from count near low some few =
    let shown : Result (ℕ × List ℕ) Fault = Ok (shown_of from count (console_of line (trace_at pages h.image h.log position))) in
    let good : nat_le line 3 && (nat_le 1 count && nat_le count 256) ≡ true = rw (le-leb line 3 low, le-leb 1 count some, le-leb count 256 few) refl in
    ap (λ (good : Bool). if good then up_to_max position shown else Err Range) good ∙ near_given position shown near

-- an answer that is the same at each word
of_any : {A : Type 0} (o : Option ℕ) (answer : Result A Fault) → is_some o ≡ true → of_place o (λ _. answer) ≡ answer
of_any None answer there = absurd (false≢true there)
of_any (Some place) answer there = refl

-- who wrote a word last
pub writer_given : (pages : ℕ) (h : History) (position address : ℕ) → position ≤ max_position → address % 4 ≡ 0 → is_some (place_of_word pages address) ≡ true
    → writer_at pages h position address ≡ Ok (writer_of (last_writer (Memory address) (trace_at pages h.image h.log position)) (map.get h.image.words address))
writer_given pages h position address near even there =
    let writer : Result Writer Fault = Ok (writer_of (last_writer (Memory address) (trace_at pages h.image h.log position)) (map.get h.image.words address)) in
    ap (λ (even : Bool). if even then of_place (place_of_word pages address) (λ _. up_to_max position writer) else Err Unaligned) (eq-eqb (address % 4) 0 even)
    ∙ (of_any (place_of_word pages address) (up_to_max position writer) there ∙ near_given position writer near)
