-- Bytes that steps sent, by their lines.
use Rattle.std.proofs.Common.{◌≡◌, ◌≢◌, ℕ, suc, ◌+◌, ◌<◌, ◌≤◌, ◌==◌, List, [], ◌∷◌, ◌++◌, length, map, slice_index_or, take, Option, Some, None, refl, sym, ap, ◌∙◌, arith, inl, inr}
use Rattle.std.specs.List.{cons_option}
use Rattle.std.proofs.lemmas.Bool.{cases_Bool, eq-eqb, ne_eqb}
use Rattle.std.proofs.lemmas.List.{append-nil, take_more}
use Rattle.std.proofs.lemmas.List.Elements.{filter_map-append}
use Rattle.dz_serial.specs.declared.write.Sent.{Sent}
use Rattle.r3k_machine.specs.declared.step.Done.{Done}
use Rattle.r3k_machine.specs.Run.{byte_on, console_of, senders_of, with_sender}
use Rattle.r3k_live.specs.Record.{sent_from, with_sent}
use Rattle.r3k_live.specs.declared.recorder.SentAt.{SentAt}
use Rattle.present_run.specs.Sent.{bytes_on, on_line, steps_on}

-- those before an item, and the item
pub item_taken : (sent : List SentAt) (i : ℕ) (one : SentAt) → one ≡ slice_index_or sent i one → i < length sent → take (i + 1) sent ≡ take i sent ++ one ∷ []
item_taken sent i one is within = take_more sent i one within ∙ ap (λ (item : SentAt). take i sent ++ item ∷ []) (sym is)

-- the bytes of a line, with one more in front
byte_first : (line step : ℕ) (sent : Option Sent) (later : List SentAt) → bytes_on line (with_sent step sent later) ≡ cons_option (byte_on line sent) (bytes_on line later)
byte_first line step None later = refl
byte_first line step (Some sent) later =
    elim (cases_Bool (sent.line == line)) [
      | inl is ↦ rw is refl
      | inr other ↦ rw other refl
    ]

pub console_sent : (line first : ℕ) (steps : List Done) → bytes_on line (sent_from first steps) ≡ console_of line steps
console_sent line first [] = refl
console_sent line first (done ∷ steps) =
    byte_first line first done.sent (sent_from (suc first) steps)
    ∙ ap (cons_option (byte_on line done.sent)) (console_sent line (suc first) steps)

-- the steps that sent them
step_first : (line step : ℕ) (sent : Option Sent) (later : List SentAt) → steps_on line (with_sent step sent later) ≡ with_sender step (byte_on line sent) (steps_on line later)
step_first line step None later = refl
step_first line step (Some sent) later =
    elim (cases_Bool (sent.line == line)) [
      | inl is ↦ rw is refl
      | inr other ↦ rw other refl
    ]

-- counted from an earlier time
with_later : (from step : ℕ) (byte : Option ℕ) (steps : List ℕ) → map (λ k. from + k) (with_sender step byte steps) ≡ with_sender (from + step) byte (map (λ k. from + k) steps)
with_later from step None steps = refl
with_later from step (Some byte) steps = refl

pub senders_sent : (line from first : ℕ) (steps : List Done) → senders_of line (from + first) steps ≡ map (λ k. from + k) (steps_on line (sent_from first steps))
senders_sent line from first [] = refl
senders_sent line from first (done ∷ steps) =
    ap (with_sender (from + first) (byte_on line done.sent))
    (ap (λ (t : ℕ). senders_of line t steps) (let e : suc (from + first) ≡ from + suc first = omega arith in e) ∙ senders_sent line from (suc first) steps)
    ∙ (sym (with_later from first (byte_on line done.sent) (steps_on line (sent_from (suc first) steps)))
    ∙ ap (λ (xs : List ℕ). map (λ k. from + k) xs) (sym (step_first line first done.sent (sent_from (suc first) steps))))

-- at most one a step
few_more : (step : ℕ) (sent : Option Sent) (later : List SentAt) (n : ℕ) → length later ≤ n → length (with_sent step sent later) ≤ suc n
few_more step None later n few = omega (arith, few)
few_more step (Some sent) later n few = omega (arith, few)

pub few_sent : (first : ℕ) (steps : List Done) → length (sent_from first steps) ≤ length steps
few_sent first [] = omega arith
few_sent first (done ∷ steps) = few_more first done.sent (sent_from (suc first) steps) (length steps) (few_sent (suc first) steps)

-- one more byte, on the line or on another
pub steps_more : (line : ℕ) (front : List SentAt) (one : SentAt) → one.line ≡ line → steps_on line (front ++ one ∷ []) ≡ steps_on line front ++ one.step ∷ []
steps_more line front one is =
    filter_map-append (on_line line (λ one. one.step)) front (one ∷ [])
    ∙ ap (λ (rest : List ℕ). steps_on line front ++ rest) (let e : steps_on line (one ∷ []) ≡ one.step ∷ [] = rw (eq-eqb one.line line is) refl in e)

pub steps_none : (line : ℕ) (front : List SentAt) (one : SentAt) → one.line ≢ line → steps_on line (front ++ one ∷ []) ≡ steps_on line front
steps_none line front one other =
    filter_map-append (on_line line (λ one. one.step)) front (one ∷ [])
    ∙ (ap (λ (rest : List ℕ). steps_on line front ++ rest) (let e : steps_on line (one ∷ []) ≡ [] = rw (ne_eqb one.line line other) refl in e)
    ∙ append-nil (steps_on line front))

pub steps_split : (line : ℕ) (front rest : List SentAt) → steps_on line (front ++ rest) ≡ steps_on line front ++ steps_on line rest
steps_split line front rest = filter_map-append (on_line line (λ one. one.step)) front rest
