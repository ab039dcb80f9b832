-- A word is set among segments: over the one at its address, after a segment that ends there, or as a segment of its own.
use Rattle.std.proofs.Common.{◌≡◌, ℕ, zero, suc, ◌+◌, ◌-◌, ◌*◌, ◌/◌, ◌%◌, ◌^◌, ◌<◌, ◌≤◌, inl, inr, List, [], ◌∷◌, ◌++◌, length, get_or, refl, sym, ap, subst, ◌∙◌, append_assoc, length-append, arith}
use Rattle.std.specs.Prelude.{IsTrue}
use Rattle.std.specs.List.Sorted.{IsPartitionPoint}
use Rattle.std.specs.FinMap as map
use Rattle.std.specs.List.{insert}
use Rattle.std.specs.Ordering.{nat_cmp}
use Rattle.std.specs.declared.cmp.Ordering.TheVariants.{Less, Equal, Greater}
use Rattle.std.specs.Cmp.{nat_cmp_is}
use Rattle.std.specs.FinMap.{put, from_entries}
use Rattle.std.proofs.Math.ListN.{set, length-set}
use Rattle.std.proofs.lemmas.List.{map-set}
use Rattle.std.proofs.lemmas.List.Elements.{All-set, All-append, All-cons, All-nil}
use Rattle.r3k_image.specs.declared.segment.Segment.{Segment}
use Rattle.r3k_image.specs.Segments.{WordsAt, view, views, set_words, may_stand, end_of, entries_from, AreSegments}
use Rattle.r3k_image.specs.Entries.{IsPlaced, AreEntries}
use Rattle.r3k_image.specs.Writing.{words_in}
use Rattle.r3k_image.proofs.Words.{AreWords}
use Rattle.r3k_image.proofs.Placing.{Stand, stand}
use Rattle.r3k_image.proofs.LongestRuns.{at, entries_from-append}
use Rattle.r3k_image.proofs.SetWords.{entries_of_segments, stands, alone}
use Rattle.r3k_image.proofs.Inserting.{at_order, put_in_map}

-- ---- a word among words

put-after : (k v : ℕ) (a : ℕ) (ws : List ℕ) (es : List (ℕ × ℕ)) → end_of a (length ws) ≤ k
    → put nat_cmp k v (entries_from a ws ++ es) ≡ entries_from a ws ++ put nat_cmp k v es
put-after k v a [] es le = refl
put-after k v a (w ∷ ws) es le =
    at_order (a, w) (entries_from (a + 4) ws ++ es) k v Greater (nat_cmp_is k a Greater (omega arith))
    ∙ ap (λ (xs : List (ℕ × ℕ)). (a, w) ∷ xs) (put-after k v (a + 4) ws es (omega arith))

put-inside : (k v : ℕ) (a : ℕ) (ws : List ℕ) (es : List (ℕ × ℕ)) (i : ℕ) → k ≡ a + 4 * i → i < length ws
    → put nat_cmp k v (entries_from a ws ++ es) ≡ entries_from a (set ws i v) ++ es
put-inside k v a [] es i is lt = absurd (omega arith)
put-inside k v a (w ∷ ws) es zero is lt =
    at_order (a, w) (entries_from (a + 4) ws ++ es) k v Equal (nat_cmp_is k a Equal (omega arith))
put-inside k v a (w ∷ ws) es (suc i) is lt =
    at_order (a, w) (entries_from (a + 4) ws ++ es) k v Greater (nat_cmp_is k a Greater (omega arith))
    ∙ ap (λ (xs : List (ℕ × ℕ)). (a, w) ∷ xs) (put-inside k v (a + 4) ws es i (omega arith) (omega arith))

put-before : (k v start : ℕ) (es : List (ℕ × ℕ)) → k < start → AreEntries start es → put nat_cmp k v es ≡ (k, v) ∷ es
put-before k v start [] lt are = refl
put-before k v start (e ∷ es) lt are = at_order e es k v Less (nat_cmp_is k e.0 Less (omega (arith, are.0.after)))

-- ---- a word among segments

-- segments that set one more word, or another value of it
pub record Patched (start k v : ℕ) (old new : List WordsAt) : Type 0 where
  pub words : words_in new ≡ put nat_cmp k v (words_in old)
  pub stand : AreSegments start new

-- good segments, the first of which begins above a word
from_above : (low k : ℕ) (ss : List WordsAt) → k % 4 ≡ 0 → AreSegments low ss → ((d : WordsAt) → 0 < length ss → k < (get_or ss 0 d).address) → AreSegments (k + 4) ss
from_above low k [] aligned h above = tt
from_above low k (s ∷ ss) aligned h above =
    let p = stand low s.address (length s.words) h.0 in
    let far : k < s.address = above s (omega arith) in
    (stands (k + 4) s.address (length s.words) (record { aligned = p.aligned; some = p.some; after = omega (arith, far, aligned, p.aligned); inside = p.inside }), h.1, h.2)

-- a segment is not before the start, and those before it end where it begins or earlier
begins_after : (start : ℕ) (ss : List WordsAt) (n : ℕ) (s : WordsAt) → AreSegments start ss → n < length ss → s ≡ get_or ss n s → start ≤ s.address
begins_after start [] n s h lt is = absurd (omega arith)
begins_after start (t ∷ ts) zero s h lt is = subst (λ (x : WordsAt). start ≤ x.address) (sym is) (stand start t.address (length t.words) h.0).after
begins_after start (t ∷ ts) (suc n) s h lt is =
    let p = stand start t.address (length t.words) h.0 in
    omega (arith, p.after, begins_after (end_of t.address (length t.words)) ts n s h.2 (omega arith) is)

abbrev pub Before : ℕ → ℕ → List WordsAt → Type 0
Before k n ss = (j : ℕ) (d : WordsAt) → j < n → end_of (get_or ss j d).address (length (get_or ss j d).words) ≤ k

abbrev pub Above : ℕ → ℕ → List WordsAt → Type 0
Above k n ss = (j : ℕ) (d : WordsAt) → n ≤ j → j < length ss → k < (get_or ss j d).address

pub end_before : (start : ℕ) (ss : List WordsAt) (n : ℕ) (s : WordsAt) (k : ℕ) → AreSegments start ss → n < length ss → s ≡ get_or ss n s
    → end_of s.address (length s.words) ≤ k → Before k (n + 1) ss
end_before start [] n s k h lt is le j d low = absurd (omega arith)
end_before start (t ∷ ts) zero s k h lt is le zero d low = subst (λ (x : WordsAt). end_of x.address (length x.words) ≤ k) is le
end_before start (t ∷ ts) zero s k h lt is le (suc j) d low = absurd (omega arith)
end_before start (t ∷ ts) (suc n) s k h lt is le zero d low =
    let after = begins_after (end_of t.address (length t.words)) ts n s h.2 (omega arith) is in
    omega (arith, after)
end_before start (t ∷ ts) (suc n) s k h lt is le (suc j) d low =
    end_before (end_of t.address (length t.words)) ts n s k h.2 (omega arith) is le j d (omega arith)

-- it begins at a multiple of 4
aligned_at : (start : ℕ) (ss : List WordsAt) (n : ℕ) (s : WordsAt) → AreSegments start ss → n < length ss → s ≡ get_or ss n s → s.address % 4 ≡ 0
aligned_at start [] n s h lt is = absurd (omega arith)
aligned_at start (t ∷ ts) zero s h lt is = subst (λ (x : WordsAt). x.address % 4 ≡ 0) (sym is) (stand start t.address (length t.words) h.0).aligned
aligned_at start (t ∷ ts) (suc n) s h lt is = aligned_at (end_of t.address (length t.words)) ts n s h.2 (omega arith) is

set-words : (ws : List ℕ) (i v : ℕ) → v < 2 ^ 32 → AreWords ws → AreWords (set ws i v)
set-words ws i v fits h = All-set (λ w. w < 2 ^ 32) ws i v fits h

push-words : (ws : List ℕ) (v : ℕ) → v < 2 ^ 32 → AreWords ws → AreWords (ws ++ v ∷ [])
push-words ws v fits h = All-append (λ w. w < 2 ^ 32) ws (v ∷ []) h (All-cons (λ w. w < 2 ^ 32) v [] fits (All-nil (λ w. w < 2 ^ 32)))

-- a word over another
pub overwritten : (start : ℕ) (ss : List WordsAt) (n : ℕ) (s : WordsAt) (i k v : ℕ) → AreSegments start ss → n < length ss → s ≡ get_or ss n s
    → k ≡ s.address + 4 * i → i < length s.words → v < 2 ^ 32 → Patched start k v ss (set ss n (at s.address (set s.words i v)))
overwritten start [] n s i k v h lt is here within fits = absurd (omega arith)
overwritten start (t ∷ ts) zero s i k v h lt is here within fits =
    let place : k ≡ t.address + 4 * i = subst (λ (x : WordsAt). k ≡ x.address + 4 * i) is here in
    let low : i < length t.words = subst (λ (x : WordsAt). i < length x.words) is within in
    let long : length t.words ≡ length (set t.words i v) = sym (simp length-set) in
    let done : Patched start k v (t ∷ ts) (at t.address (set t.words i v) ∷ ts) = record {
      words = sym (put-inside k v t.address t.words (words_in ts) i place low);
      stand = (
        subst (λ (m : ℕ). IsTrue (may_stand start t.address m)) long h.0,
        set-words t.words i v fits h.1,
        subst (λ (m : ℕ). AreSegments (end_of t.address m) ts) long h.2,
      );
    } in
    subst (λ (x : WordsAt). Patched start k v (t ∷ ts) (at x.address (set x.words i v) ∷ ts)) (sym is) done
overwritten start (t ∷ ts) (suc n) s i k v h lt is here within fits =
    let rest = overwritten (end_of t.address (length t.words)) ts n s i k v h.2 (omega arith) is here within fits in
    let after = begins_after (end_of t.address (length t.words)) ts n s h.2 (omega arith) is in
    record {
      words = ap (λ (xs : List (ℕ × ℕ)). entries_from t.address t.words ++ xs) rest.words ∙ sym (put-after k v t.address t.words (words_in ts) (omega (arith, after)));
      stand = (h.0, h.1, rest.stand);
    }

-- a word after a segment
pub extended : (start : ℕ) (ss : List WordsAt) (n : ℕ) (s : WordsAt) (k v : ℕ) → AreSegments start ss → n < length ss → s ≡ get_or ss n s
    → end_of s.address (length s.words) ≡ k → IsPlaced 0 k v → Above k (n + 1) ss → Patched start k v ss (set ss n (at s.address (s.words ++ v ∷ [])))
extended start [] n s k v h lt is here good above = absurd (omega arith)
extended start (t ∷ ts) zero s k v h lt is here good above =
    let place : end_of t.address (length t.words) ≡ k = subst (λ (x : WordsAt). end_of x.address (length x.words) ≡ k) is here in
    let p = stand start t.address (length t.words) h.0 in
    let rest : AreSegments (k + 4) ts = from_above (end_of t.address (length t.words)) k ts good.aligned h.2 (λ d some. above 1 d (omega arith) (omega arith)) in
    let long : length (t.words ++ v ∷ []) ≡ length t.words + 1 = simp length-append in
    let end : k + 4 ≡ end_of t.address (length (t.words ++ v ∷ [])) = omega (arith, long, place) in
    let one : (k, v) ∷ words_in ts ≡ put nat_cmp k v (words_in ts) = sym (put-before k v (k + 4) (words_in ts) (omega arith) (entries_of_segments (k + 4) ts rest)) in
    let more : Stand start t.address (length (t.words ++ v ∷ [])) = record {
      aligned = p.aligned;
      some = omega (arith, long);
      after = p.after;
      inside = elim p.inside [
        | inl ram ↦ inl (elim good.inside [ inl low ↦ omega (arith, low, good.aligned, end) | inr rom ↦ absurd (omega (arith, ram, rom.0, place)) ])
        | inr rom ↦ inr (rom.0, elim good.inside [ inl low ↦ absurd (omega (arith, low, rom.0, place)) | inr high ↦ omega (arith, high.1, good.aligned, end) ])
      ];
    } in
    let done : Patched start k v (t ∷ ts) (at t.address (t.words ++ v ∷ []) ∷ ts) = record {
      words = ap (λ (xs : List (ℕ × ℕ)). xs ++ words_in ts) (entries_from-append t.address t.words (v ∷ []) ∙ ap (λ (m : ℕ). entries_from t.address t.words ++ (m, v) ∷ []) place)
          ∙ append_assoc (entries_from t.address t.words) ((k, v) ∷ []) (words_in ts)
          ∙ ap (λ (xs : List (ℕ × ℕ)). entries_from t.address t.words ++ xs) one
          ∙ sym (put-after k v t.address t.words (words_in ts) (omega (arith, place)));
      stand = (stands start t.address (length (t.words ++ v ∷ [])) more, push-words t.words v good.fits h.1, subst (λ (m : ℕ). AreSegments m ts) end rest);
    } in
    subst (λ (x : WordsAt). Patched start k v (t ∷ ts) (at x.address (x.words ++ v ∷ []) ∷ ts)) (sym is) done
extended start (t ∷ ts) (suc n) s k v h lt is here good above =
    let rest = extended (end_of t.address (length t.words)) ts n s k v h.2 (omega arith) is here good (λ j d low high. above (suc j) d (omega arith) (omega arith)) in
    let after = begins_after (end_of t.address (length t.words)) ts n s h.2 (omega arith) is in
    record {
      words = ap (λ (xs : List (ℕ × ℕ)). entries_from t.address t.words ++ xs) rest.words ∙ sym (put-after k v t.address t.words (words_in ts) (omega (arith, after, here)));
      stand = (h.0, h.1, rest.stand);
    }

-- a word between segments
pub put_alone : (start : ℕ) (ss : List WordsAt) (n k v : ℕ) → AreSegments start ss → n ≤ length ss → IsPlaced start k v → Before k n ss → Above k n ss
    → Patched start k v ss (insert ss n (at k (v ∷ [])))
put_alone start ss zero k v h le good before above =
    let rest : AreSegments (k + 4) ss = from_above start k ss good.aligned h (λ d some. above 0 d (omega arith) some) in
    record {
      words = sym (put-before k v (k + 4) (words_in ss) (omega arith) (entries_of_segments (k + 4) ss rest));
      stand = alone start k v ss good rest;
    }
put_alone start [] (suc n) k v h le good before above = absurd (omega arith)
put_alone start (t ∷ ts) (suc n) k v h le good before above =
    let end : end_of t.address (length t.words) ≤ k = before 0 t (omega arith) in
    let rest = put_alone (end_of t.address (length t.words)) ts n k v h.2 (omega arith) (record { aligned = good.aligned; after = end; inside = good.inside; fits = good.fits })
    (λ j d low. before (suc j) d (omega arith)) (λ j d low high. above (suc j) d (omega arith) (omega arith)) in
    record {
      words = ap (λ (xs : List (ℕ × ℕ)). entries_from t.address t.words ++ xs) rest.words ∙ sym (put-after k v t.address t.words (words_in ts) end);
      stand = (h.0, h.1, rest.stand);
    }

-- ---- the segments of the program

views_at : (ss : List Segment) (n : ℕ) (s : Segment) → s ≡ get_or ss n s → view s ≡ get_or (views ss) n (view s)
views_at [] n s is = refl
views_at (t ∷ ts) zero s is = ap view is
views_at (t ∷ ts) (suc n) s is = views_at ts n s is

length-views : (ss : List Segment) → length (views ss) ≡ length ss
length-views [] = refl
length-views (s ∷ ss) = ap suc (length-views ss)

views-insert : (ss : List Segment) (n : ℕ) (s : Segment) → views (insert ss n s) ≡ insert (views ss) n (view s)
views-insert ss zero s = refl
views-insert [] (suc n) s = refl
views-insert (t ∷ ts) (suc n) s = ap (λ (xs : List WordsAt). view t ∷ xs) (views-insert ts n s)

-- where a search for the segments that begin at or below an address ends
abbrev pub Parted : ℕ → List Segment → ℕ → Type 0
Parted k ss n = IsPartitionPoint (λ (s : Segment). s.address ≤ k) (λ (s : Segment). k < s.address) ss n

above_views : (k : ℕ) (ss : List Segment) (n : ℕ) → ((j : ℕ) (d : Segment) → n ≤ j → j < length ss → k < (get_or ss j d).address) → Above k n (views ss)
above_views k [] n h j d low high = absurd (omega arith)
above_views k (s ∷ ss) n h zero d low high = h 0 s low (omega arith)
above_views k (s ∷ ss) n h (suc j) d low high =
    above_views k ss (n - 1) (λ i e l u. h (suc i) e (omega arith) (omega arith)) j d (omega arith) (omega arith)

all_above : (k : ℕ) (ss : List Segment) (n : ℕ) → Parted k ss n → Above k n (views ss)
all_above k ss n point = above_views k ss n (λ j d low high. point.1 j d low high)

-- the last segment that begins at or below the address, which a search of the same segments finds
pub record Found (k : ℕ) (ss : List Segment) (n : ℕ) (s : Segment) : Type 0 where
  pub point : Parted k ss n
  pub some : 0 < n
  pub fits : n ≤ length ss
  pub within : n - 1 < length (views ss)
  pub is : view s ≡ get_or (views ss) (n - 1) (view s)
  pub below : s.address ≤ k
  pub aligned : s.address % 4 ≡ 0

pub found : (k : ℕ) (ss searched : List Segment) (n : ℕ) (s : Segment) → searched ≡ ss → AreSegments 0 (views ss) → Parted k searched n → n ≤ length searched → 0 < n
    → s ≡ get_or ss (n - 1) s → Found k ss n s
found k ss searched n s same h parted bound some is =
    let point : Parted k ss n = subst (λ (xs : List Segment). Parted k xs n) same parted in
    let fits : n ≤ length ss = subst (λ (xs : List Segment). n ≤ length xs) same bound in
    let within : n - 1 < length (views ss) = omega (arith, length-views ss) in
    let there = views_at ss (n - 1) s is in
    let low : s.address ≤ k = subst (λ (x : Segment). x.address ≤ k) (sym is) (point.0 (n - 1) s (omega arith) (omega arith)) in
    record { point = point; some = some; fits = fits; within = within; is = there; below = low; aligned = aligned_at 0 (views ss) (n - 1) (view s) h within there }

pub write_over : (k v : ℕ) (ss : List Segment) (n : ℕ) (s new : Segment) → AreSegments 0 (views ss) → IsPlaced 0 k v → Found k ss n s
    → (k - s.address) / 4 < length s.words.items → view new ≡ at s.address (set s.words.items ((k - s.address) / 4) v)
    → Patched 0 k v (views ss) (views (set ss (n - 1) new))
write_over k v ss n s new h good here inside is =
    let done = overwritten 0 (views ss) (n - 1) (view s) ((k - s.address) / 4) k v h here.within here.is (omega (arith, here.below, here.aligned, good.aligned)) inside good.fits in
    subst (λ (xs : List WordsAt). Patched 0 k v (views ss) xs) (ap (set (views ss) (n - 1)) (sym is) ∙ sym (map-set view ss (n - 1) new)) done

pub write_after : (k v : ℕ) (ss : List Segment) (n : ℕ) (s new : Segment) → AreSegments 0 (views ss) → IsPlaced 0 k v → Found k ss n s
    → (k - s.address) / 4 ≡ length s.words.items → view new ≡ at s.address (s.words.items ++ v ∷ [])
    → Patched 0 k v (views ss) (views (set ss (n - 1) new))
write_after k v ss n s new h good here ends is =
    let above = all_above k ss n here.point in
    let done = extended 0 (views ss) (n - 1) (view s) k v h here.within here.is (omega (arith, here.below, here.aligned, good.aligned)) good
    (λ j d low high. above j d (omega (arith, here.some)) high) in
    subst (λ (xs : List WordsAt). Patched 0 k v (views ss) xs) (ap (set (views ss) (n - 1)) (sym is) ∙ sym (map-set view ss (n - 1) new)) done

between : (k v : ℕ) (ss : List Segment) (n : ℕ) (new : Segment) → AreSegments 0 (views ss) → IsPlaced 0 k v → Parted k ss n → n ≤ length ss → Before k n (views ss)
    → view new ≡ at k (v ∷ []) → Patched 0 k v (views ss) (views (insert ss n new))
between k v ss n new h good point fits before is =
    let done = put_alone 0 (views ss) n k v h (omega (arith, length-views ss)) good before (all_above k ss n point) in
    subst (λ (xs : List WordsAt). Patched 0 k v (views ss) xs) (ap (insert (views ss) n) (sym is) ∙ sym (views-insert ss n new)) done

-- a word before all segments, and one between the last that begins below it and the next
pub write_first : (k v : ℕ) (ss searched : List Segment) (n : ℕ) (new : Segment) → searched ≡ ss → AreSegments 0 (views ss) → IsPlaced 0 k v → Parted k searched n
    → n ≤ length searched → n ≤ 0 → view new ≡ at k (v ∷ []) → Patched 0 k v (views ss) (views (insert ss n new))
write_first k v ss searched n new same h good parted bound none is =
    between k v ss n new h good (subst (λ (xs : List Segment). Parted k xs n) same parted) (omega arith) (λ j d low. absurd (omega arith)) is

pub write_apart : (k v : ℕ) (ss : List Segment) (n : ℕ) (s new : Segment) → AreSegments 0 (views ss) → IsPlaced 0 k v → Found k ss n s
    → length s.words.items ≤ (k - s.address) / 4 → view new ≡ at k (v ∷ []) → Patched 0 k v (views ss) (views (insert ss n new))
write_apart k v ss n s new h good here past is =
    let end : end_of s.address (length s.words.items) ≤ k = omega (arith, here.below, past) in
    let all = end_before 0 (views ss) (n - 1) (view s) k h here.within here.is end in
    between k v ss n new h good here.point here.fits (λ j d low. all j d (omega (arith, here.some))) is

-- what the map of set words is then
pub patched_words : (k v : ℕ) (ss new : List WordsAt) → AreSegments 0 ss → IsPlaced 0 k v → words_in new ≡ put nat_cmp k v (words_in ss) → set_words new ≡ map.insert (set_words ss) k v
patched_words k v ss new h good is = ap from_entries is ∙ put_in_map (words_in ss) k v good (entries_of_segments 0 ss h)
