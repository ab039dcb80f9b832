-- A part of a console, when the console gets one more byte.
use Rattle.std.proofs.Common.{◌≡◌, ℕ, zero, suc, ◌<◌, ◌≤◌, List, [], ◌∷◌, ◌++◌, length, drop, take, Option, Some, None, refl, sym, ap, append_assoc, arith, ◌∙◌}
use Rattle.std.specs.List.{cons_option}
use Rattle.std.proofs.Math.ListN.{drop_of_length-le}
use Rattle.std.proofs.Math.Seq.{take-nil}
use Rattle.std.proofs.lemmas.List.{append-nil, drop-append-le, length-append, length-drop, length-take, take-append-le, take_all}
use Rattle.std.proofs.lemmas.List.Elements.{filter_map-append}
use Rattle.r3k_live.specs.declared.recorder.SentAt.{SentAt}
use Rattle.present_run.specs.Console.{part_of, with_byte}
use Rattle.present_run.specs.Sent.{bytes_on, on_line}

-- the bytes of a line after one more
beyond : (bytes : List ℕ) (byte : Option ℕ) → bytes ++ cons_option byte [] ≡ with_byte bytes byte
beyond bytes None = append-nil bytes
beyond bytes (Some byte) = refl

in_front : (console bytes : List ℕ) (byte : Option ℕ) → with_byte (console ++ bytes) byte ≡ console ++ with_byte bytes byte
in_front console bytes None = refl
in_front console bytes (Some byte) = append_assoc console bytes (byte ∷ [])

pub bytes_more : (line : ℕ) (console : List ℕ) (front : List SentAt) (one : SentAt)
    → with_byte (console ++ bytes_on line front) (on_line line (λ one. one.byte) one) ≡ console ++ bytes_on line (front ++ one ∷ [])
bytes_more line console front one =
    let byte = on_line line (λ one. one.byte) one in
    in_front console (bytes_on line front) byte
    ∙ ap (λ (bytes : List ℕ). console ++ bytes) (sym (filter_map-append (on_line line (λ one. one.byte)) front (one ∷ []) ∙ beyond (bytes_on line front) byte))

take-more : (count : ℕ) (xs : List ℕ) (b : ℕ) → length (take count xs) < count → take count (xs ++ b ∷ []) ≡ take count xs ++ b ∷ []
take-more count xs b room =
    let few : length xs < count = omega (arith, length-take count xs, room) in
    take_all count (xs ++ b ∷ []) (omega (arith, length-append xs (b ∷ []), few)) ∙ sym (ap (λ (l : List ℕ). l ++ b ∷ []) (take_all count xs (omega (arith, few))))

-- the part begins after the end
pub part_short : (from count : ℕ) (xs : List ℕ) → length xs ≤ from → part_of from count xs ≡ []
part_short from count xs early = ap (take count) (drop_of_length-le xs early) ∙ take-nil count

-- the part is asked for, and is not yet full
pub part_more : (from count : ℕ) (xs : List ℕ) (b : ℕ) → from ≤ length xs → length (part_of from count xs) < count
    → part_of from count (xs ++ b ∷ []) ≡ part_of from count xs ++ b ∷ []
part_more from count xs b asked room = ap (take count) (drop-append-le from xs (b ∷ []) asked) ∙ take-more count (drop from xs) b room

-- the part is full
pub enough : (from count : ℕ) (xs more : List ℕ) → count ≤ length (part_of from count xs) → part_of from count (xs ++ more) ≡ part_of from count xs
enough from zero xs more full = refl
enough from (suc count) xs more full =
    let long : suc count ≤ length (drop from xs) = omega (arith, length-take (suc count) (drop from xs), full) in
    ap (take (suc count)) (drop-append-le from xs more (omega (arith, length-drop from xs, long))) ∙ take-append-le (suc count) (drop from xs) more long

pub part_enough : (from count : ℕ) (xs : List ℕ) (b : ℕ) → count ≤ length (part_of from count xs) → part_of from count (xs ++ b ∷ []) ≡ part_of from count xs
part_enough from count xs b full = enough from count xs (b ∷ []) full

-- the byte comes before the part
pub part_before : (from count : ℕ) (xs : List ℕ) (b : ℕ) → length xs < from → part_of from count (xs ++ b ∷ []) ≡ part_of from count xs
part_before from count xs b early = part_short from count (xs ++ b ∷ []) (omega (arith, length-append xs (b ∷ []), early)) ∙ sym (part_short from count xs (omega (arith, early)))
