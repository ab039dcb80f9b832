-- Words that stand in ascending order make good runs, and a map with them as its entries.
use Rattle.std.proofs.Common.{◌≡◌, ℕ, ◌+◌, ◌%◌, ◌^◌, ◌<◌, ◌≤◌, Bool, true, false, ◌⊎◌, inl, inr, List, [], ◌∷◌, ◌++◌, length, Option, Some, None, refl, sym, ap, subst, ◌∙◌, arith, T}
use Rattle.std.specs.Prelude.{◌&&◌, ◌||◌, nat_lt, nat_le, IsTrue, IsSome, IfSome, is_some}
use Rattle.std.specs.Ordering.{nat_cmp, is_lt}
use Rattle.std.specs.declared.cmp.Ordering.TheVariants.{Less, Equal, Greater}
use Rattle.std.specs.Cmp.{nat_cmp_is, nat_cmp_total}
use Rattle.std.specs.FinMap as map
use Rattle.std.specs.FinMap.{find, is_sorted, from_entries, from_sorted, same_map, get-from_entries, get-from_sorted, entries-from_sorted, get-entries, entries_sorted, nat_cmp-IsAntisymmetric, get}
use Rattle.std.specs.FinMap.Entries.{below_all}
use Rattle.std.proofs.lemmas.Bool.{eq-eqb, lt-ltb, ltb-true, le-leb, leb-true, and_parts, and_from, ne_eqb, cases_lt, cases_eq, cases_Bool}
use Rattle.std.proofs.lemmas.List.Elements.{All-head, All-tail, All-cons}
use Rattle.r3k_word.specs.declared.layout.TheConstants.{MAX_RAM_PAGES, ROM_START}
use Rattle.r3k_word.specs.Layout.{place_of_word}
use Rattle.r3k_image.specs.Boot.{Boot, IsBoot, ram_end, rom_end}
use Rattle.r3k_image.specs.Segments.{WordsAt, may_stand, end_of, entries_from, AreSegments}
use Rattle.r3k_image.specs.Entries.{IsPlaced, AreEntries}
use Rattle.r3k_image.specs.Writing.{onto_runs, runs_of, words_in}
use Rattle.r3k_image.proofs.Words.{AreWords}
use Rattle.r3k_image.proofs.Placing.{Stand, stand}
use Rattle.r3k_image.proofs.Lookup.{find_here, find_other}
use Rattle.r3k_image.proofs.LongestRuns.{at, onto-joins, onto-apart}

later : (start more : ℕ) (es : List (ℕ × ℕ)) → start ≤ more → AreEntries more es → AreEntries start es
later start more [] le h = tt
later start more (e ∷ es) le h = (record { aligned = h.0.aligned; after = omega (arith, h.0.after); inside = h.0.inside; fits = h.0.fits }, h.1)

-- ---- from segments to words

inside_words : (start a : ℕ) (ws : List ℕ) (es : List (ℕ × ℕ)) → a % 4 ≡ 0 → start ≤ a → AreWords ws
    → (end_of a (length ws) ≤ ram_end) ⊎ ((ROM_START ≤ a) × (end_of a (length ws) ≤ rom_end))
    → AreEntries (end_of a (length ws)) es → AreEntries start (entries_from a ws ++ es)
inside_words start a [] es aligned after words inside h = later start (end_of a 0) es (omega arith) h
inside_words start a (w ∷ ws) es aligned after words inside h =
    let same : end_of a (length (w ∷ ws)) ≡ end_of (a + 4) (length ws) = omega arith in (
      record {
        aligned = aligned;
        after = after;
        inside = elim inside [ inl ram ↦ inl (omega (arith, ram)) | inr rom ↦ inr (rom.0, omega (arith, rom.1)) ];
        fits = All-head (λ v. v < 2 ^ 32) w ws words;
      },
      inside_words (a + 4) (a + 4) ws es (omega (arith, aligned)) (omega arith) (All-tail (λ v. v < 2 ^ 32) w ws words)
          (elim inside [ inl ram ↦ inl (omega (arith, ram)) | inr rom ↦ inr (omega (arith, rom.0), omega (arith, rom.1)) ])
          (subst (λ (n : ℕ). AreEntries n es) same h),
    )

pub entries_of_segments : (start : ℕ) (ss : List WordsAt) → AreSegments start ss → AreEntries start (words_in ss)
entries_of_segments start [] h = tt
entries_of_segments start (s ∷ ss) h =
    let p = stand start s.address (length s.words) h.0 in
    inside_words start s.address s.words (words_in ss) p.aligned p.after h.1 p.inside (entries_of_segments (end_of s.address (length s.words)) ss h.2)

-- ---- from words to runs

pub stands : (start a n : ℕ) → Stand start a n → IsTrue (may_stand start a n)
stands start a n p =
    let front = and_from _ _ (and_from _ _ (eq-eqb (a % 4) 0 p.aligned) (lt-ltb 0 n p.some)) (le-leb start a p.after) in
    elim p.inside [
      | inl ram ↦ and_from _ _ front (let e = le-leb _ _ ram in rw e refl)
      | inr rom ↦ and_from _ _ front (
          let e = and_from _ _ (le-leb _ _ rom.0) (le-leb _ _ rom.1) in
          elim (nat_le (end_of a n) ram_end) as (λ b. (b || (nat_le ROM_START a && nat_le (end_of a n) rom_end)) ≡ true) [ true ↦ refl | false ↦ e ]
          )
    ]

one_word : (w : ℕ) → w < 2 ^ 32 → AreWords (w ∷ [])
one_word w fits = λ k d h. elim (cases_eq k 0) [ inl e ↦ rw e fits | inr n ↦ absurd (omega arith) ]

more_words : (w : ℕ) (ws : List ℕ) → w < 2 ^ 32 → AreWords ws → AreWords (w ∷ ws)
more_words w ws fits h = All-cons (λ v. v < 2 ^ 32) w ws fits h

pub alone : (start a w : ℕ) (ss : List WordsAt) → IsPlaced start a w → AreSegments (a + 4) ss → AreSegments start (at a (w ∷ []) ∷ ss)
alone start a w ss p h =
    let good : Stand start a 1 = record {
      aligned = p.aligned;
      some = omega arith;
      after = p.after;
      inside = elim p.inside [ inl ram ↦ inl (omega (arith, ram, p.aligned)) | inr rom ↦ inr (rom.0, omega (arith, rom.1, p.aligned)) ];
    } in
    let end : a + 4 ≡ end_of a 1 = omega arith in
    (stands start a 1 good, one_word w p.fits, subst (λ (n : ℕ). AreSegments n ss) end h)

onto_stand : (start a w : ℕ) (ss : List WordsAt) → IsPlaced start a w → AreSegments (a + 4) ss → AreSegments start (onto_runs a w ss)
onto_stand start a w [] p h = alone start a w [] p h
onto_stand start a w (s ∷ ss) p h =
    elim (cases_eq s.address (a + 4)) [
      | inl e ↦
          let q = stand (a + 4) s.address (length s.words) h.0 in
          let end : end_of s.address (length s.words) ≡ end_of a (length (w ∷ s.words)) = omega (arith, e) in
          let good : Stand start a (length (w ∷ s.words)) = record {
            aligned = p.aligned;
            some = omega arith;
            after = p.after;
            inside = elim q.inside [
              | inl ram ↦ inl (omega (arith, ram, e))
              | inr rom ↦ inr (elim p.inside [ inl low ↦ absurd (omega (arith, low, rom.0, e)) | inr high ↦ (high.0, omega (arith, rom.1, e)) ])
            ];
          } in
          subst (AreSegments start) (sym (onto-joins a w s ss e))
          (stands start a (length (w ∷ s.words)) good, more_words w s.words p.fits h.1, subst (λ (n : ℕ). AreSegments n ss) end h.2)
      | inr n ↦ subst (AreSegments start) (sym (onto-apart a w s ss n)) (alone start a w (s ∷ ss) p h)
    ]

pub runs_stand : (start : ℕ) (es : List (ℕ × ℕ)) → AreEntries start es → AreSegments start (runs_of es)
runs_stand start [] h = tt
runs_stand start (e ∷ es) h = onto_stand start e.0 e.1 (runs_of es) h.0 (runs_stand (e.0 + 4) es h.1)

-- ---- words as the entries of a map

less_is : (x y : ℕ) → x < y → IsTrue (is_lt (nat_cmp x y))
less_is x y lt = ap is_lt (sym (nat_cmp_is x y Less lt))

below : (x start : ℕ) (es : List (ℕ × ℕ)) → x < start → AreEntries start es → below_all nat_cmp x es ≡ true
below x start [] lt h = refl
below x start (e ∷ es) lt h = and_from _ _ (less_is x e.0 (omega (arith, h.0.after))) (below x (e.0 + 4) es (omega (arith, h.0.after)) h.1)

sorted : (start : ℕ) (es : List (ℕ × ℕ)) → AreEntries start es → is_sorted nat_cmp es ≡ true
sorted start [] h = refl
sorted start (e ∷ es) h = and_from _ _ (below e.0 (e.0 + 4) es (omega arith) h.1) (sorted (e.0 + 4) es h.1)

is_T : (b : Bool) → b ≡ true → T b
is_T b e = subst T (sym e) tt

-- the map of words in order has just these entries
pub entries_of_words : (start : ℕ) (es : List (ℕ × ℕ)) → AreEntries start es → map.entries (from_entries {R = nat_cmp} es) ≡ es
entries_of_words start es h =
    let t = is_T (is_sorted nat_cmp es) (sorted start es h) in
    let same : from_entries {R = nat_cmp} es ≡ from_sorted es =
    same_map nat_cmp_total nat_cmp-IsAntisymmetric (from_entries es) (from_sorted es)
    (λ q. get-from_entries nat_cmp_total es q ∙ sym (get-from_sorted nat_cmp es q t)) in
    ap map.entries same ∙ entries-from_sorted nat_cmp es t

-- a map is that of its entries
pub map_of_entries : (m : map.FinMap nat_cmp ℕ) → from_entries (map.entries m) ≡ m
map_of_entries m =
    same_map nat_cmp_total nat_cmp-IsAntisymmetric (from_entries (map.entries m)) m
    (λ q. get-from_entries nat_cmp_total (map.entries m) q ∙ sym (get-entries m q))

-- ---- the entries of a boot image

T-true : (b : Bool) → T b → b ≡ true
T-true true h = refl
T-true false h = absurd h

is_less : (x y : ℕ) → is_lt (nat_cmp x y) ≡ true → x < y
is_less x y e =
    elim (cases_lt x y) [
      | inl lt ↦ lt
      | inr ge ↦ elim (cases_eq x y) [
        | inl same ↦ absurd (let f : false ≡ true = ap is_lt (nat_cmp_is x y Equal same) ∙ e in cc)
        | inr other ↦ absurd (let f : false ≡ true = ap is_lt (nat_cmp_is x y Greater (omega arith)) ∙ e in cc)
      ]
    ]

found_above : (x q w : ℕ) (es : List (ℕ × ℕ)) → below_all nat_cmp x es ≡ true → find nat_cmp q es ≡ Some w → x < q
found_above x q w [] h e = absurd cc
found_above x q w (f ∷ fs) h e =
    let parts = and_parts _ _ h in
    elim (cases_eq q f.0) [
      | inl same ↦ subst (λ n. x < n) (sym same) (is_less x f.0 parts.0)
      | inr other ↦ found_above x q w fs parts.1 (sym (find_other q f.0 f.1 fs other) ∙ e)
    ]

abbrev Good : ℕ → ℕ → Type 0
Good q w = IsSome (place_of_word MAX_RAM_PAGES q) × (w < 2 ^ 32)

pub placed : (start q w : ℕ) → start ≤ q → Good q w → IsPlaced start q w
placed start q w le good =
    elim (cases_eq (q % 4) 0) [
      | inl aligned ↦
          record {
            aligned = aligned;
            after = le;
            inside = elim (cases_Bool (nat_lt q ram_end)) [
              | inl ram ↦ inl (ltb-true _ _ ram)
              | inr high ↦ elim (cases_Bool (nat_le ROM_START q && nat_lt q rom_end)) [
                | inl rom ↦ let r = and_parts _ _ rom in inr (leb-true _ _ r.0, ltb-true _ _ r.1)
                | inr out ↦ absurd (let f : ◌≡◌ {A = Bool} false true = rw (eq-eqb (q % 4) 0 aligned, high, out) at good.0 in cc)
              ]
            ];
            fits = good.1;
          }
      | inr odd ↦ absurd (let f : ◌≡◌ {A = Bool} false true = rw (ne_eqb (q % 4) 0 odd) at good.0 in cc)
    ]

entries_good : (start : ℕ) (es : List (ℕ × ℕ)) → is_sorted nat_cmp es ≡ true → ((q w : ℕ) → find nat_cmp q es ≡ Some w → Good q w × (start ≤ q)) → AreEntries start es
entries_good start [] s h = tt
entries_good start (e ∷ es) s h =
    let parts = and_parts _ _ s in
    let first = h e.0 e.1 (find_here e.0 e.0 e.1 es refl) in
    let p = placed start e.0 e.1 first.1 first.0 in (
      p,
      entries_good (e.0 + 4) es parts.1
          (λ q w found.
          let above = found_above e.0 q w es parts.0 found in
          let good = h q w (find_other q e.0 e.1 es (λ same. omega (arith, above, same)) ∙ found) in
          let r = placed start q w good.1 good.0 in
          (good.0, omega (arith, above, p.aligned, r.aligned))),
    )

some_is : (o : Option ℕ) (w : ℕ) → o ≡ Some w → IsTrue (is_some o)
some_is None w e = absurd cc
some_is (Some v) w e = refl

pub boot_entries : (boot : Boot) → IsBoot boot → AreEntries 0 (map.entries boot.words)
boot_entries boot good =
    entries_good 0 (map.entries boot.words) (T-true _ (entries_sorted boot.words))
    (λ q w found.
    let got : get boot.words q ≡ Some w = get-entries boot.words q ∙ found in (
      (good.places q (some_is (get boot.words q) w got), subst (λ o. IfSome o (λ v. v < 2 ^ 32)) got (good.values q)),
      omega arith,
    ))
