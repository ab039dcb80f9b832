-- The part of a search that lies in one span.
use Rattle.std.proofs.Common.{◌≡◌, ℕ, ◌+◌, ◌-◌, ◌*◌, ◌/◌, ◌%◌, ◌<◌, ◌≤◌, min, inl, inr, sym, ap, ◌∙◌, arith}
use Rattle.std.proofs.lemmas.Bool.{cases_lt}
use Rattle.std.proofs.Math.Nat.{div-le_of_le-mul, div-mul-le_self, lt-div-mul-add, mod-eq-sub-div-mul, mul-mod_left, mul_comm}
use Rattle.present_run.proofs.Spans.{next_start}

-- from a time to the end of its span, or to the last position
pub record IsPiece (span time last to : ℕ) : Type 0 where
  pub low : time / span * span ≤ time
  pub near : time ≤ time / span * span + span
  pub into : time - time / span * span ≡ time % span
  pub more : time < to
  pub most : to ≤ last
  pub end : to ≤ time / span * span + span
  pub next : to / span ≤ time / span + 1
  pub whole : to < last → to % span ≡ 0

pub piece : (span time last to : ℕ) → 64 ≤ span → time < last → to ≡ min last ((time / span + 1) * span) → IsPiece span time last to
piece span time last to long before is =
    let some : 0 < span = omega (arith, long) in
    let full : to < last → to ≡ (time / span + 1) * span = λ less. omega (arith, is, less) in
    let index = time / span in
    let start = next_start index span in
    let high = lt-div-mul-add {a = time} {b = span} some in record {
      low = div-mul-le_self time span;
      near = omega (arith, high);
      into = sym (mod-eq-sub-div-mul time span);
      more =
          elim (cases_lt to last) [
            | inl less ↦ let e = full less in omega (arith, e, start, high)
            | inr all ↦ omega (arith, all, before)
          ];
      most = omega (arith, is);
      end = omega (arith, is, start);
      next = div-le_of_le-mul span (let e : to ≤ span * (index + 1) = omega (arith, is, mul_comm span (index + 1)) in e);
      whole = λ less. ap (λ (n : ℕ). n % span) (full less) ∙ mul-mod_left (index + 1) span;
    }
