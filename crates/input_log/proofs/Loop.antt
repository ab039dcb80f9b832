-- Reading events one after the other, as a loop does.
use Rattle.std.proofs.Common.{◌≡◌, ℕ, suc, ◌-◌, ◌+◌, ◌≤◌, ◌<◌, ◌⊎◌, inl, inr, List, [], ◌∷◌, ◌++◌, Result, Ok, Err, refl, sym, ap, subst, ◌∙◌, append_assoc, arith}
use Rattle.std.specs.Prelude.{IsOk, is_ok}
use Rattle.std.proofs.lemmas.List.{append-nil}
use Rattle.input_log.specs.declared.fault.LogKind.{LogKind}
use Rattle.input_log.specs.declared.format.Version.{Version}
use Rattle.input_log.specs.Event.{LogEvent}
use Rattle.r3k_word.specs.Reading.{◌>>=◌}
use Rattle.input_log.specs.Reading.{event_at, events_at}

-- what was read before, and what is still read
abbrev pub with_front : List LogEvent → Result (List LogEvent × List ℕ) LogKind → Result (List LogEvent × List ℕ) LogKind
with_front front read = read >>= λ x. Ok (front ++ x.0, x.1)

-- what the loop keeps
pub record Reads (version : Version) (count counter last : ℕ) (bytes rest : List ℕ) (front : List LogEvent) : Type 0 where
  pub value : with_front front (events_at version (count - counter) last rest) ≡ events_at version count 0 bytes
  pub first : IsOk (event_at version 0 bytes) ⊎ ((last ≡ 0) × (rest ≡ bytes))

regroup : (front : List LogEvent) (e : LogEvent) (read : Result (List LogEvent × List ℕ) LogKind) → with_front front (read >>= λ x. Ok (e ∷ x.0, x.1)) ≡ with_front (front ++ e ∷ []) read
regroup front e (Ok x) = ap (λ (es : List LogEvent). Ok (es, x.1)) (simp append_assoc)
regroup front e (Err f) = refl

-- the first event is whole where the one read now is
whole_first : (version : Version) (last : ℕ) (bytes rest : List ℕ) → IsOk (event_at version last rest) → IsOk (event_at version 0 bytes) ⊎ ((last ≡ 0) × (rest ≡ bytes)) → IsOk (event_at version 0 bytes)
whole_first version last bytes rest here (inl first) = first
whole_first version last bytes rest here (inr same) = subst (λ b. IsOk (event_at version 0 b)) same.1 (subst (λ n. IsOk (event_at version n rest)) same.0 here)

pub goes_on : (version : Version) (count counter last : ℕ) (bytes rest : List ℕ) (front : List LogEvent) (e : LogEvent) (after : List ℕ) → counter < count → event_at version last rest ≡ Ok (e, after)
    → Reads version count counter last bytes rest front → Reads version count (counter + 1) e.time bytes after (front ++ e ∷ [])
unfolding events_at
goes_on version count counter last bytes rest front e after lt h so_far =
    let k : count - counter ≡ suc (count - (counter + 1)) = omega arith in
    let one : with_front front (events_at version (count - counter) last rest) ≡ with_front (front ++ e ∷ []) (events_at version (count - (counter + 1)) e.time after) =
    rw (k, h) (regroup front e (events_at version (count - (counter + 1)) e.time after)) in
    record { value = sym one ∙ so_far.value; first = inl (whole_first version last bytes rest (ap is_ok h) so_far.first) }

pub ends_value : (version : Version) (kind : LogKind) (count counter last : ℕ) (bytes rest : List ℕ) (front : List LogEvent) → counter < count → event_at version last rest ≡ Err kind
    → Reads version count counter last bytes rest front → events_at version count 0 bytes ≡ Err kind
unfolding events_at
ends_value version kind count counter last bytes rest front lt h so_far =
    let k : count - counter ≡ suc (count - (counter + 1)) = omega arith in
    let one : with_front front (events_at version (count - counter) last rest) ≡ Err kind = rw (k, h) refl in
    sym so_far.value ∙ one

pub is_done : (version : Version) (count counter last : ℕ) (bytes rest : List ℕ) (front : List LogEvent) → count ≤ counter → Reads version count counter last bytes rest front → events_at version count 0 bytes ≡ Ok (front, rest)
unfolding events_at
is_done version count counter last bytes rest front le so_far =
    let k : count - counter ≡ 0 = omega arith in
    let one : with_front front (events_at version (count - counter) last rest) ≡ Ok (front, rest) = rw k (ap (λ (es : List LogEvent). Ok (es, rest)) (append-nil front)) in
    sym so_far.value ∙ one
