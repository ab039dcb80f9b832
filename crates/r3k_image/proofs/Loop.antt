-- Reading segments one after the other, as a loop does.
use Rattle.std.proofs.Common.{◌≡◌, ℕ, suc, ◌-◌, ◌+◌, ◌≤◌, ◌<◌, ◌⊎◌, inl, inr, List, [], ◌∷◌, ◌++◌, length, Result, Ok, Err, refl, sym, ap, subst, ◌∙◌, append_assoc, arith}
use Rattle.std.specs.Prelude.{IsOk, is_ok}
use Rattle.std.proofs.lemmas.List.{append-nil}
use Rattle.r3k_image.specs.declared.fault.ImageKind.{ImageKind}
use Rattle.r3k_image.specs.declared.fault.ImageFault.{ImageFault}
use Rattle.r3k_image.specs.declared.fault.ImageFault.TheVariants.{Memory, Bad}
use Rattle.r3k_image.specs.Segments.{WordsAt, end_of}
use Rattle.r3k_word.specs.Reading.{◌>>=◌}
use Rattle.r3k_image.specs.Reading.{FailsOrLacks, segment_at, segments_at}

-- what was read before, and what is still read
abbrev pub with_front : List WordsAt → Result (List WordsAt × List ℕ) ImageKind → Result (List WordsAt × List ℕ) ImageKind
with_front front read = read >>= λ x. Ok (front ++ x.0, x.1)

-- what the loop keeps
pub record Reads (count counter start : ℕ) (bytes rest : List ℕ) (front : List WordsAt) : Type 0 where
  pub value : with_front front (segments_at (count - counter) start rest) ≡ segments_at count 0 bytes
  pub first : IsOk (segment_at 0 bytes) ⊎ ((start ≡ 0) × (rest ≡ bytes))

regroup : (front : List WordsAt) (s : WordsAt) (read : Result (List WordsAt × List ℕ) ImageKind) → with_front front (read >>= λ x. Ok (s ∷ x.0, x.1)) ≡ with_front (front ++ s ∷ []) read
regroup front s (Ok x) = ap (λ (ss : List WordsAt). Ok (ss, x.1)) (simp append_assoc)
regroup front s (Err f) = refl

-- the first segment is whole where the one read now is
whole_first : (start : ℕ) (bytes rest : List ℕ) → IsOk (segment_at start rest) → IsOk (segment_at 0 bytes) ⊎ ((start ≡ 0) × (rest ≡ bytes)) → IsOk (segment_at 0 bytes)
whole_first start bytes rest here (inl first) = first
whole_first start bytes rest here (inr same) = subst (λ b. IsOk (segment_at 0 b)) same.1 (subst (λ n. IsOk (segment_at n rest)) same.0 here)

pub goes_on : (count counter start : ℕ) (bytes rest : List ℕ) (front : List WordsAt) (s : WordsAt) (after : List ℕ) (next : ℕ) → counter < count → segment_at start rest ≡ Ok (s, after)
    → next ≡ end_of s.address (length s.words) → Reads count counter start bytes rest front → Reads count (counter + 1) next bytes after (front ++ s ∷ [])
unfolding segments_at
goes_on count counter start bytes rest front s after next lt h e so_far =
    let k : count - counter ≡ suc (count - (counter + 1)) = omega arith in
    let one : with_front front (segments_at (count - counter) start rest) ≡ with_front (front ++ s ∷ []) (segments_at (count - (counter + 1)) (end_of s.address (length s.words)) after) =
    rw (k, h) (regroup front s (segments_at (count - (counter + 1)) (end_of s.address (length s.words)) after)) in
    record {
      value = ap (λ n. with_front (front ++ s ∷ []) (segments_at (count - (counter + 1)) n after)) e ∙ sym one ∙ so_far.value;
      first = inl (whole_first start bytes rest (ap is_ok h) so_far.first);
    }

pub ends_value : (fault : ImageFault) (count counter start : ℕ) (bytes rest : List ℕ) (front : List WordsAt) → counter < count → FailsOrLacks fault (segment_at start rest)
    → Reads count counter start bytes rest front → FailsOrLacks fault (segments_at count 0 bytes)
unfolding segments_at
ends_value Memory count counter start bytes rest front lt h so_far = tt
ends_value (Bad kind) count counter start bytes rest front lt h so_far =
    let k : count - counter ≡ suc (count - (counter + 1)) = omega arith in
    let one : with_front front (segments_at (count - counter) start rest) ≡ Err kind = rw (k, h) refl in
    sym so_far.value ∙ one

pub is_done : (count counter start : ℕ) (bytes rest : List ℕ) (front : List WordsAt) → count ≤ counter → Reads count counter start bytes rest front → segments_at count 0 bytes ≡ Ok (front, rest)
unfolding segments_at
is_done count counter start bytes rest front le so_far =
    let k : count - counter ≡ 0 = omega arith in
    let one : with_front front (segments_at (count - counter) start rest) ≡ Ok (front, rest) = rw k (ap (λ (ss : List WordsAt). Ok (ss, rest)) (append-nil front)) in
    sym so_far.value ∙ one
