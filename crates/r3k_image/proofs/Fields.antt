-- A field that is read is the field that was written, and what was written is read again.
use Rattle.std.proofs.Common.{◌≡◌, ℕ, zero, suc, ◌+◌, ◌*◌, ◌^◌, ◌≤◌, true, cond, List, [], ◌∷◌, ◌++◌, length, Result, Ok, Err, refl, sym, ap, subst, ◌∙◌, append_assoc, arith}
use Rattle.std.specs.Prelude.{nat_le, nat_lt, ◌&&◌, flat_map}
use Rattle.std.proofs.lemmas.Bool.{ltb-true, lt-ltb, leb-true, le-leb, and_parts, and_from}
use Rattle.std.proofs.lemmas.List.{append-nil}
use Rattle.r3k_word.specs.Word.{bytes_of}
use Rattle.r3k_image.specs.declared.fault.ImageKind.{ImageKind}
use Rattle.r3k_image.specs.declared.fault.ImageKind.TheVariants as kinds
use Rattle.r3k_image.specs.Boot.{rom_end, IsConstant}
use Rattle.r3k_image.specs.Segments.{WordsAt, may_stand, AreSegments, end_of}
use Rattle.r3k_image.specs.Spelling.{segment}
use Rattle.r3k_word.specs.Reading.{◌>>=◌, bytes_at, number_at}
use Rattle.r3k_word.proofs.Read.{AreBytes, bind_ok, passes, Takes, Takes-then, bytes_take, bytes_at_again, number_takes, number_at_again}
use Rattle.r3k_image.specs.Reading.{constant_at, words_of, segment_at, segments_at}
use Rattle.r3k_image.proofs.Words.{AreWords, length-words_of, length-word_bytes, words_of-fits, word_bytes_again, words_again}
use Rattle.r3k_image.proofs.Placing.{stand, Stand-end}

abbrev done : {A : Type 0} → A → Result A ImageKind
done x = Ok x

pub ok_is : {A : Type 0} (x y : A) → done x ≡ done y → x ≡ y
ok_is x y e = cc

-- ---- constants

pub constant_takes : (fault : ImageKind) (bytes : List ℕ) (n : ℕ) (rest : List ℕ) → AreBytes bytes → constant_at fault bytes ≡ Ok (n, rest) → Takes bytes (bytes_of n) rest × IsConstant n
unfolding constant_at
constant_takes fault bytes n rest are e =
    let b = bind_ok (number_at kinds.Short bytes) (λ x. cond (nat_le 1 x.0 && nat_lt x.0 (2 ^ 16)) (Ok x) (Err fault)) (n, rest) e in
    let g = passes (nat_le 1 b.0.0 && nat_lt b.0.0 (2 ^ 16)) (Ok b.0) fault (n, rest) b.2 in
    let both = and_parts _ _ g.0 in
    let range : IsConstant b.0.0 = (leb-true _ _ both.0, ltb-true _ _ both.1) in
    let t = number_takes kinds.Short bytes b.0.0 b.0.1 are b.1 in
    subst (λ (p : ℕ × List ℕ). Takes bytes (bytes_of p.0) p.1 × IsConstant p.0) (ok_is b.0 (n, rest) g.1) (t.0, range)

pub constant_at_again : (fault : ImageKind) (n : ℕ) (rest : List ℕ) → IsConstant n → constant_at fault (bytes_of n ++ rest) ≡ Ok (n, rest)
unfolding constant_at
constant_at_again fault n rest range =
    let good : (nat_le 1 n && nat_lt n (2 ^ 16)) ≡ true = and_from _ _ (le-leb 1 n range.0) (lt-ltb n 65536 range.1) in
    ap (λ r. r >>= (λ x. cond (nat_le 1 x.0 && nat_lt x.0 (2 ^ 16)) (Ok x) (Err fault))) (number_at_again kinds.Short n rest (omega (arith, range.1)))
    ∙ ap (λ b. cond b (Ok (n, rest)) (Err fault)) good

-- ---- segments

segment_takes : (start : ℕ) (bytes : List ℕ) (s : WordsAt) (rest : List ℕ) → AreBytes bytes → segment_at start bytes ≡ Ok (s, rest)
    → Takes bytes (segment s) rest × (may_stand start s.address (length s.words) ≡ true) × AreWords s.words
unfolding segment_at
segment_takes start bytes s rest are e =
    let a = bind_ok (number_at kinds.Short bytes) (λ address. number_at kinds.Short address.1 >>= λ count. cond (may_stand start address.0 count.0) (bytes_at kinds.Short (4 * count.0) count.1) (Err kinds.Segment) >>= λ words. Ok (record { address = address.0; words = words_of count.0 words.0 }, words.1)) (s, rest) e in
    let b = bind_ok (number_at kinds.Short a.0.1) (λ count. cond (may_stand start a.0.0 count.0) (bytes_at kinds.Short (4 * count.0) count.1) (Err kinds.Segment) >>= λ words. Ok (record { address = a.0.0; words = words_of count.0 words.0 }, words.1)) (s, rest) a.2 in
    let d = bind_ok (cond (may_stand start a.0.0 b.0.0) (bytes_at kinds.Short (4 * b.0.0) b.0.1) (Err kinds.Segment)) (λ words. Ok (record { address = a.0.0; words = words_of b.0.0 words.0 }, words.1)) (s, rest) b.2 in
    let g = passes (may_stand start a.0.0 b.0.0) (bytes_at kinds.Short (4 * b.0.0) b.0.1) kinds.Segment d.0 d.1 in
    let count = b.0.0 in
    let words = words_of count d.0.0 in
    let t0 = number_takes kinds.Short bytes a.0.0 a.0.1 are a.1 in
    let t1 = number_takes kinds.Short a.0.1 b.0.0 b.0.1 t0.0.rest_bytes b.1 in
    let t2 = bytes_take kinds.Short (4 * count) b.0.1 d.0.0 d.0.1 t1.0.rest_bytes g.1 in
    let len : length words ≡ count = length-words_of count d.0.0 in
    let text : flat_map bytes_of words ≡ d.0.0 = word_bytes_again count d.0.0 t2.1 t2.2 in
    let made : WordsAt × List ℕ = (record { address = a.0.0; words = words }, d.0.1) in
    let t01 = Takes-then bytes (bytes_of a.0.0) a.0.1 (bytes_of count) b.0.1 t0.0 t1.0 in
    let t012 = Takes-then bytes (bytes_of a.0.0 ++ bytes_of count) b.0.1 d.0.0 d.0.1 t01 t2.0 in
    let worded = subst (λ (t : List ℕ). Takes bytes (bytes_of a.0.0 ++ bytes_of count ++ t) d.0.1) (sym text) t012 in
    let spelled : Takes bytes (segment made.0) d.0.1 = subst (λ (k : ℕ). Takes bytes (bytes_of a.0.0 ++ bytes_of k ++ flat_map bytes_of words) d.0.1) (sym len) worded in
    let stands : may_stand start a.0.0 (length words) ≡ true = ap (may_stand start a.0.0) len ∙ g.0 in
    subst (λ (p : WordsAt × List ℕ). Takes bytes (segment p.0) p.1 × (may_stand start p.0.address (length p.0.words) ≡ true) × AreWords p.0.words) (ok_is made (s, rest) d.2) (spelled, stands, words_of-fits count d.0.0 t2.2)

regroup3 : (a b c d : List ℕ) → a ++ b ++ c ++ d ≡ a ++ (b ++ (c ++ d))
regroup3 a b c d = simp append_assoc

-- the three parts of a segment, one after the other
segment_steps : (start : ℕ) (bytes r1 r2 r3 text : List ℕ) (s : WordsAt) → number_at kinds.Short bytes ≡ Ok (s.address, r1) → number_at kinds.Short r1 ≡ Ok (length s.words, r2)
    → may_stand start s.address (length s.words) ≡ true → bytes_at kinds.Short (4 * length s.words) r2 ≡ Ok (text, r3) → words_of (length s.words) text ≡ s.words → segment_at start bytes ≡ Ok (s, r3)
unfolding segment_at
segment_steps start bytes r1 r2 r3 text s e1 e2 stands e3 same = rw (e1, e2, stands, e3, same) refl

segment_at_again : (start : ℕ) (s : WordsAt) (rest : List ℕ) → may_stand start s.address (length s.words) ≡ true → AreWords s.words → segment_at start (segment s ++ rest) ≡ Ok (s, rest)
segment_at_again start s rest stands words =
    let p = stand start s.address (length s.words) stands in
    let end = Stand-end start s.address (length s.words) p in
    let text = flat_map bytes_of s.words in
    ap (segment_at start) (regroup3 (bytes_of s.address) (bytes_of (length s.words)) text rest)
    ∙ segment_steps start (bytes_of s.address ++ (bytes_of (length s.words) ++ (text ++ rest))) (bytes_of (length s.words) ++ (text ++ rest)) (text ++ rest) rest text s
    (number_at_again kinds.Short s.address (bytes_of (length s.words) ++ (text ++ rest)) (omega (arith, end)))
    (number_at_again kinds.Short (length s.words) (text ++ rest) (omega (arith, end)))
    stands
    (bytes_at_again kinds.Short (4 * length s.words) text rest (length-word_bytes s.words))
    (ap (words_of (length s.words)) (sym (append-nil text)) ∙ words_again s.words [] words)

pub segments_take : (n start : ℕ) (bytes : List ℕ) (ss : List WordsAt) (rest : List ℕ) → AreBytes bytes → segments_at n start bytes ≡ Ok (ss, rest)
    → Takes bytes (flat_map segment ss) rest × (length ss ≡ n) × AreSegments start ss
unfolding segments_at
segments_take zero start bytes ss rest are e =
    subst (λ (p : List WordsAt × List ℕ). Takes bytes (flat_map segment p.0) p.1 × (length p.0 ≡ 0) × AreSegments start p.0) (ok_is ([], bytes) (ss, rest) e) (record { parts = refl; rest_bytes = are }, refl, tt)
segments_take (suc n) start bytes ss rest are e =
    let a = bind_ok (segment_at start bytes) (λ first. segments_at n (end_of first.0.address (length first.0.words)) first.1 >>= λ others. Ok (first.0 ∷ others.0, others.1)) (ss, rest) e in
    let b = bind_ok (segments_at n (end_of a.0.0.address (length a.0.0.words)) a.0.1) (λ others. Ok (a.0.0 ∷ others.0, others.1)) (ss, rest) a.2 in
    let first = segment_takes start bytes a.0.0 a.0.1 are a.1 in
    let others = segments_take n (end_of a.0.0.address (length a.0.0.words)) a.0.1 b.0.0 b.0.1 first.0.rest_bytes b.1 in
    let both = Takes-then bytes (segment a.0.0) a.0.1 (flat_map segment b.0.0) b.0.1 first.0 others.0 in
    let made : List WordsAt × List ℕ = (a.0.0 ∷ b.0.0, b.0.1) in
    subst (λ (p : List WordsAt × List ℕ). Takes bytes (flat_map segment p.0) p.1 × (length p.0 ≡ suc n) × AreSegments start p.0) (ok_is made (ss, rest) b.2) (both, ap suc others.1, (first.1, first.2, others.2))

segments_step : (n start : ℕ) (bytes r1 r2 : List ℕ) (s : WordsAt) (ss : List WordsAt) → segment_at start bytes ≡ Ok (s, r1) → segments_at n (end_of s.address (length s.words)) r1 ≡ Ok (ss, r2) → segments_at (suc n) start bytes ≡ Ok (s ∷ ss, r2)
unfolding segments_at
segments_step n start bytes r1 r2 s ss e1 e2 = rw (e1, e2) refl

segments_none : (start : ℕ) (bytes : List ℕ) → segments_at 0 start bytes ≡ Ok ([], bytes)
unfolding segments_at
segments_none start bytes = refl

pub segments_at_again : (start : ℕ) (ss : List WordsAt) (rest : List ℕ) → AreSegments start ss → segments_at (length ss) start (flat_map segment ss ++ rest) ≡ Ok (ss, rest)
segments_at_again start [] rest are = segments_none start rest
segments_at_again start (s ∷ ss) rest are =
    ap (segments_at (suc (length ss)) start) (append_assoc (segment s) (flat_map segment ss) rest)
    ∙ segments_step (length ss) start (segment s ++ (flat_map segment ss ++ rest)) (flat_map segment ss ++ rest) rest s ss
    (segment_at_again start s (flat_map segment ss ++ rest) are.0 are.1)
    (segments_at_again (end_of s.address (length s.words)) ss rest are.2)

-- n segments have room
pub few : (start : ℕ) (ss : List WordsAt) → start ≤ rom_end → AreSegments start ss → start + 4 * length ss ≤ rom_end
few start [] le are = omega (arith, le)
few start (s ∷ ss) le are =
    let p = stand start s.address (length s.words) are.0 in
    let end = Stand-end start s.address (length s.words) p in
    let rest = few (end_of s.address (length s.words)) ss end are.2 in
    omega (arith, rest, p.after, p.some)
