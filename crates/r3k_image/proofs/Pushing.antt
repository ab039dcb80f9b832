-- Words after the runs so far.
use Rattle.std.proofs.Common.{◌≡◌, ◌≢◌, ℕ, zero, suc, ◌*◌, ◌<◌, ◌≤◌, get_or, flat_map, arith, List, [], ◌∷◌, ◌++◌, length, refl, sym, ap, subst, ◌∙◌}
use Rattle.std.proofs.lemmas.List.{map-append}
use Rattle.r3k_image.specs.declared.segment.Segment.{Segment}
use Rattle.r3k_word.specs.Word.{bytes_of}
use Rattle.r3k_image.specs.Boot.{Boot, rom_end}
use Rattle.r3k_image.specs.declared.header.TheConstants.{MAGIC}
use Rattle.r3k_image.specs.Spelling.{segment, spelling}
use Rattle.r3k_image.specs.Segments.{WordsAt, view, views, end_of, entries_from, AreSegments}
use Rattle.r3k_image.proofs.Placing.{stand, Stand-end}
use Rattle.std.proofs.lemmas.List.{nil_from_length}
use Rattle.r3k_image.specs.Writing.{words_in, AreLongest}
use Rattle.r3k_image.proofs.LongestRuns.{at, joined_words, longest-joined, longest-first, longest-pushed}

-- a segment after others
views-push : (front : List Segment) (s : Segment) → views (front ++ s ∷ []) ≡ views front ++ view s ∷ []
views-push front s = map-append view front (s ∷ [])

-- the last run has more words
pub record Joins (old new front : List Segment) (last next : Segment) (a : ℕ) (ws : List ℕ) : Type 0 where
  pub was : old ≡ front ++ last ∷ []
  pub is : new ≡ front ++ next ∷ []
  pub address : next.address ≡ last.address
  pub words : next.words.items ≡ last.words.items ++ ws
  pub end : end_of last.address (length last.words.items) ≡ a

joined_view : (old new front : List Segment) (last next : Segment) (a : ℕ) (ws : List ℕ) → Joins old new front last next a ws
    → views new ≡ views front ++ at last.address (last.words.items ++ ws) ∷ []
joined_view old new front last next a ws j =
    ap views j.is ∙ views-push front next ∙ ap (λ (s : WordsAt). views front ++ s ∷ []) (λ i. record { address = j.address i; words = j.words i })

old_view : (old front : List Segment) (last : Segment) → old ≡ front ++ last ∷ [] → views old ≡ views front ++ view last ∷ []
old_view old front last e = ap views e ∙ views-push front last

pub joins_words : (old new front : List Segment) (last next : Segment) (a : ℕ) (ws : List ℕ) → Joins old new front last next a ws
    → words_in (views new) ≡ words_in (views old) ++ entries_from a ws
joins_words old new front last next a ws j =
    ap words_in (joined_view old new front last next a ws j)
    ∙ joined_words (views front) (view last) a ws j.end
    ∙ ap (λ (ss : List WordsAt). words_in ss ++ entries_from a ws) (sym (old_view old front last j.was))

pub joins_longest : (old new front : List Segment) (last next : Segment) (a : ℕ) (ws : List ℕ) → Joins old new front last next a ws
    → AreLongest (views old) → AreLongest (views new)
joins_longest old new front last next a ws j h =
    subst AreLongest (sym (joined_view old new front last next a ws j))
    (longest-joined (views front) (view last) ws (subst AreLongest (old_view old front last j.was) h))

added_view : (old new : List Segment) (next : Segment) (a : ℕ) (ws : List ℕ) → new ≡ old ++ next ∷ [] → next.address ≡ a → next.words.items ≡ ws
    → views new ≡ views old ++ at a ws ∷ []
added_view old new next a ws e address words =
    ap views e ∙ views-push old next ∙ ap (λ (s : WordsAt). views old ++ s ∷ []) (λ i. record { address = address i; words = words i })

pub adds_longest : (old kept new front : List Segment) (last next : Segment) (a : ℕ) (ws : List ℕ) → old ≡ front ++ last ∷ [] → kept ≡ old → new ≡ kept ++ next ∷ []
    → next.address ≡ a → next.words.items ≡ ws → 0 < length ws → end_of last.address (length last.words.items) ≢ a → AreLongest (views old) → AreLongest (views new)
adds_longest old mid new front last next a ws was same beyond address words some apart h =
    let is : new ≡ old ++ next ∷ [] = beyond ∙ ap (λ (ss : List Segment). ss ++ next ∷ []) same in
    let before = old_view old front last was in
    let kept : AreLongest (views front ++ view last ∷ []) = subst AreLongest before h in
    subst AreLongest (sym (added_view old new next a ws is address words ∙ ap (λ (ss : List WordsAt). ss ++ at a ws ∷ []) before))
    (longest-pushed (views front) (view last) a ws some apart kept)

pub begins_longest : (old new : List Segment) (next : Segment) (a : ℕ) (ws : List ℕ) → length old ≡ 0 → new ≡ old ++ next ∷ []
    → next.address ≡ a → next.words.items ≡ ws → 0 < length ws → AreLongest (views new)
begins_longest old new next a ws empty is address words some =
    let none : old ≡ [] = nil_from_length old empty in
    subst AreLongest (sym (added_view old new next a ws is address words ∙ ap (λ (ss : List Segment). views ss ++ at a ws ∷ []) none))
    (longest-first a ws some)

-- a good segment has words, and not too many
pub some_words : (start k : ℕ) (ss : List Segment) (s : Segment) → AreSegments start (views ss) → k < length ss → s ≡ get_or ss k s
    → (0 < length s.words.items) × (4 * length s.words.items ≤ rom_end)
some_words start k [] s h lt is = absurd (omega arith)
some_words start zero (t ∷ ts) s h lt is =
    let p = stand start t.address (length t.words.items) h.0 in
    subst (λ (x : Segment). (0 < length x.words.items) × (4 * length x.words.items ≤ rom_end)) (sym is) (p.some, let e = Stand-end start t.address (length t.words.items) p in omega arith)
some_words start (suc k) (t ∷ ts) s h lt is = some_words (end_of t.address (length t.words.items)) k ts s h.2 (omega arith) is

-- the parts of an image, one after the other
pub spelled : (boot : Boot) (runs : List WordsAt) (magic a b c d e : List ℕ) (n : ℕ) → magic ≡ MAGIC → a ≡ magic ++ bytes_of boot.byte_time → b ≡ a ++ bytes_of boot.unit
    → c ≡ b ++ boot.clock_start → d ≡ c ++ bytes_of n → e ≡ d ++ flat_map segment runs → n ≡ length runs → e ≡ spelling boot runs
spelled boot runs magic a b c d e n h0 h1 h2 h3 h4 h5 h6 = rw (h5, h4, h3, h2, h1, h0, h6) refl
