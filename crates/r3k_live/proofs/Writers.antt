-- The words that were stored into, taken out in order.
use Rattle.std.proofs.Common.{◌≡◌, ℕ, zero, suc, ◌+◌, ◌-◌, ◌*◌, ◌/◌, ◌<◌, ◌≤◌, Bool, true, false, cond, filter, List, All, Contains, map, length, slice_index, slice_index_or, Option, Some, None, IsSome, append_assoc, take, refl, sym, ap, subst, ◌∙◌, arith, [], ◌∷◌, ◌++◌, inl, inr}
use Rattle.std.proofs.Math.Path.{ap₂}
use Rattle.std.specs.List.{flat_map, range_with_len}
use Rattle.std.specs.List.Sorted.{IsStrictlyIncreasing}
use Rattle.std.proofs.Math.ListN.{get_or-append}
use Rattle.std.proofs.Math.Seq.{get_or-append_seam}
use Rattle.std.proofs.lemmas.Bool.{cases_lt, true≢false}
use Rattle.std.proofs.lemmas.Grind.{flat_map-append}
use Rattle.std.proofs.lemmas.List.{get_or_past, take_more, append-nil, length-append, map-append}
use Rattle.std.proofs.lemmas.List.Elements.{All-append, All-map, All-nil, Contains-append_left, Contains-append_right, Contains-push}
use Rattle.r3k_word.specs.declared.layout.TheConstants.{PAGE_WORDS}
use Rattle.r3k_machine.specs.declared.step.Done.{Done}
use Rattle.r3k_machine.specs.declared.target.Target.TheVariants.{Memory}
use Rattle.r3k_machine.specs.Run.{last_writer}
use Rattle.r3k_machine.specs.Reports.{IsRamWord}
use Rattle.r3k_pages.specs.Pages.{holds, page_count_of, pages_where}
use Rattle.r3k_pages.proofs.Ascending.{kept_more}
use Rattle.r3k_live.specs.Record.{AreWriters}
use Rattle.r3k_live.specs.Kept.{kept_step}
use Rattle.r3k_live.specs.Stores.{AreInBlocks, AreInPages, writers_in, written_at}
use Rattle.r3k_live.specs.declared.recorder.Written.{Written}
use Rattle.r3k_pages.specs.declared.block.TheConstants.{BLOCK_WORDS}

-- a word before a place, with its step
abbrev Is : (n : ℕ) → (last : List ℕ) → Written → Type 0
Is n last written = (written.place < n) × (slice_index last written.place ≡ written.step + 1)

one : (n kept : ℕ) (last : List ℕ) → slice_index last n ≡ kept → All (Is (suc n) last) (written_at n kept)
one n zero last is k d within = absurd (let e : ⊥ = omega (arith, within) in e)
one n (suc step) last is zero d within = (omega arith, omega (arith, is))
one n (suc step) last is (suc k) d within = absurd (let e : ⊥ = omega (arith, within) in e)

each : (first n : ℕ) (last : List ℕ) → All (Is (first + n) last) (writers_in first n last)
unfolding writers_in
each first zero last = All-nil (Is (first + 0) last)
each first (suc n) last =
    let place = first + n in
    All-append (Is (first + suc n) last) (writers_in first n last) (written_at place (slice_index last place))
    (λ k d within. let here = each first n last k d within in (omega (arith, here.0), here.1))
    (λ k d within. let here = one place (slice_index last place) last refl k d within in (omega (arith, here.0), here.1))

abbrev places : List Written → List ℕ
places written = map (λ w. w.place) written

-- a list that ascends, with one more number
pub one_more : (xs : List ℕ) (x : ℕ) → IsStrictlyIncreasing xs → All (λ y. y < x) xs → IsStrictlyIncreasing (xs ++ x ∷ [])
one_more xs x up below k within =
    elim (cases_lt (k + 1) (length xs)) [
      | inl front ↦ omega (arith, up k front, get_or-append xs (x ∷ []) 0 k (omega (arith, front)), get_or-append xs (x ∷ []) 0 (k + 1) front)
      | inr past ↦
          let last : k + 1 ≡ length xs = omega (arith, within, length-append xs (x ∷ []), past) in
          let here = get_or-append xs (x ∷ []) 0 k (omega (arith, last)) in
          let next : slice_index (xs ++ x ∷ []) (k + 1) ≡ x = ap (slice_index (xs ++ x ∷ [])) last ∙ get_or-append_seam xs x [] 0 in
          omega (arith, here, next, below k 0 (omega (arith, last)))
    ]

ascending : (first n : ℕ) (last : List ℕ) → IsStrictlyIncreasing (places (writers_in first n last))
unfolding writers_in
ascending first zero last = λ k within. absurd (let e : ⊥ = omega (arith, within) in e)
ascending first (suc n) last =
    more (writers_in first n last) (first + n) (slice_index last (first + n)) (ascending first n last) (λ k d within. (each first n last k d within).0)
  where
    more : (so_far : List Written) (n kept : ℕ) → IsStrictlyIncreasing (places so_far) → All (λ w. w.place < n) so_far
        → IsStrictlyIncreasing (places (so_far ++ written_at n kept))
    more so_far n zero up below = subst (λ (ws : List Written). IsStrictlyIncreasing (places ws)) (sym (append-nil so_far)) up
    more so_far n (suc step) up below =
        subst IsStrictlyIncreasing (sym (map-append (λ (w : Written). w.place) so_far (written_at n (suc step))))
        (one_more (places so_far) n up (All-map (λ y. y < n) (λ (w : Written). w.place) so_far below))

-- each word that has a step is there
all_there : (first n place : ℕ) (last : List ℕ) → first ≤ place → place < first + n → 0 < slice_index last place
    → Contains (places (writers_in first n last)) place
unfolding writers_in
all_there first zero place last least within some = absurd (let e : ⊥ = omega (arith, least, within) in e)
all_there first (suc n) place last least within some =
    let end = written_at (first + n) (slice_index last (first + n)) in
    subst (λ (xs : List ℕ). Contains xs place) (sym (map-append (λ (w : Written). w.place) (writers_in first n last) end))
    (elim (cases_lt place (first + n)) [
      | inl before ↦ Contains-append_left (places (writers_in first n last)) (places end) place (all_there first n place last least before some)
      | inr past ↦
          let here : first + n ≡ place = omega (arith, within, past) in
          Contains-append_right (places (writers_in first n last)) (places end) place
          (at_end (first + n) (slice_index last (first + n)) (ap (slice_index last) here) some here)
    ])
  where
    at_end : (n kept : ℕ) → kept ≡ slice_index last place → 0 < slice_index last place → n ≡ place → Contains (places (written_at n kept)) place
    at_end n zero is some here = absurd (let e : ⊥ = omega (arith, is, some) in e)
    at_end n (suc step) is some here = subst (λ (x : ℕ). Contains (x ∷ []) place) (sym here) (Contains-push [] place)

-- one more word
pub one_word : (first n : ℕ) (last : List ℕ) (kept : ℕ) → slice_index last (first + n) ≡ kept
    → writers_in first (n + 1) last ≡ writers_in first n last ++ written_at (first + n) kept
unfolding writers_in
one_word first n last kept is =
    ap (λ (k : ℕ). writers_in first k last) (let e : n + 1 ≡ suc n = omega arith in e)
    ∙ ap (λ (kept : ℕ). writers_in first n last ++ written_at (first + n) kept) is

-- more words
pub words_more : (first m n : ℕ) (last : List ℕ) → writers_in first (m + n) last ≡ writers_in first m last ++ writers_in (first + m) n last
unfolding writers_in
words_more first m zero last = ap (λ (k : ℕ). writers_in first k last) (let e : m + 0 ≡ m = omega arith in e) ∙ sym (append-nil (writers_in first m last))
words_more first m (suc n) last =
    let place = first + m + n in
    let end = written_at place (slice_index last place) in
    ap (λ (k : ℕ). writers_in first k last) (let e : m + suc n ≡ suc (m + n) = omega arith in e)
    ∙ (ap₂ (λ (so_far : List Written) (place : ℕ). so_far ++ written_at place (slice_index last place)) (words_more first m n last)
    (let e : first + (m + n) ≡ place = omega arith in e)
    ∙ append_assoc (writers_in first m last) (writers_in (first + m) n last) end)

-- words without a step
pub none_in : (first n : ℕ) (last : List ℕ) → ((place : ℕ) → first ≤ place → place < first + n → slice_index last place ≡ 0) → writers_in first n last ≡ []
unfolding writers_in
none_in first zero last none = refl
none_in first (suc n) last none =
    ap₂ (λ (so_far : List Written) (kept : ℕ). so_far ++ written_at (first + n) kept)
    (none_in first n last (λ place least below. none place least (omega (arith, below)))) (none (first + n) (omega arith) (omega arith))

-- no word yet
pub none_yet : (so_far : List Written) (first n : ℕ) (last : List ℕ) → n ≡ 0 → so_far ≡ so_far ++ writers_in first n last
unfolding writers_in
none_yet so_far first n last none = sym (ap (λ (n : ℕ). so_far ++ writers_in first n last) none ∙ append-nil so_far)

-- after others, one more word
pub then_word : (so_far now : List Written) (first place kept : ℕ) (last : List ℕ) → first ≤ place → slice_index last place ≡ kept
    → now ≡ so_far ++ writers_in first (place - first) last → now ++ written_at place kept ≡ so_far ++ writers_in first (place + 1 - first) last
then_word so_far now first place kept last least is now_is =
    let n = place - first in
    let there : first + n ≡ place = omega (arith, least) in
    ap (λ (ws : List Written). ws ++ written_at place kept) now_is
    ∙ (append_assoc so_far (writers_in first n last) (written_at place kept)
    ∙ ap (λ (ws : List Written). so_far ++ ws)
    (sym (ap (λ (k : ℕ). writers_in first k last) (let e : place + 1 - first ≡ n + 1 = omega (arith, least) in e)
    ∙ (one_word first n last kept (ap (slice_index last) there ∙ is) ∙ ap (λ (p : ℕ). writers_in first n last ++ written_at p kept) there))))

-- after others, more words
pub then_words : (so_far now : List Written) (first m place n all : ℕ) (last : List ℕ) → first + m ≡ place → m + n ≡ all
    → now ≡ so_far ++ writers_in first m last → now ++ writers_in place n last ≡ so_far ++ writers_in first all last
then_words so_far now first m place n all last there more now_is =
    ap (λ (ws : List Written). ws ++ writers_in place n last) now_is
    ∙ (append_assoc so_far (writers_in first m last) (writers_in place n last)
    ∙ ap (λ (ws : List Written). so_far ++ ws)
    (ap (λ (p : ℕ). writers_in first m last ++ writers_in p n last) (sym there)
    ∙ (sym (words_more first m n last) ∙ ap (λ (k : ℕ). writers_in first k last) more)))

-- the words of a block that is not marked
pub in_unmarked : (last : List ℕ) (blocks : List Bool) (block : ℕ) → AreInBlocks last blocks → slice_index_or blocks block false ≡ false
    → writers_in (block * BLOCK_WORDS) BLOCK_WORDS last ≡ []
in_unmarked last blocks block marked none =
    none_in (block * BLOCK_WORDS) BLOCK_WORDS last
    (λ place least below.
    elim (cases_lt 0 (slice_index last place)) [
      | inl some ↦
          absurd (true≢false (sym (marked place some)
          ∙ (ap (λ (n : ℕ). slice_index_or blocks n false) (let e : place / BLOCK_WORDS ≡ block = omega (arith, least, below) in e) ∙ none)))
      | inr fewer ↦ omega (arith, fewer)
    ])

-- the words of a page
abbrev pub in_page : (last : List ℕ) → (page : ℕ) → List Written
in_page last page = writers_in (page * PAGE_WORDS) PAGE_WORDS last

-- those of the first n pages are those of the pages among them that are stored into
pub in_pages : (n : ℕ) (last dirty : List ℕ) → AreInPages last dirty
    → flat_map (in_page last) (filter (holds dirty) (range_with_len 0 n)) ≡ writers_in 0 (n * PAGE_WORDS) last
unfolding writers_in
in_pages zero last dirty marked = refl
in_pages (suc n) last dirty marked =
    let test : ℕ → Bool = holds dirty in
    let so_far = filter test (range_with_len 0 n) in
    ap (λ (k : ℕ). flat_map (in_page last) (filter test (range_with_len 0 k))) (let e : suc n ≡ n + 1 = omega arith in e)
    ∙ (ap (flat_map (in_page last)) (kept_more test n)
    ∙ (flat_map-append (in_page last) so_far (cond (test n) (n ∷ []) [])
    ∙ (ap₂ (λ (a b : List Written). a ++ b) (in_pages n last dirty marked) (here (test n) refl)
    ∙ (sym (words_more 0 (n * PAGE_WORDS) PAGE_WORDS last ∙ ap (λ (k : ℕ). writers_in 0 (n * PAGE_WORDS) last ++ writers_in k PAGE_WORDS last)
    (let e : 0 + n * PAGE_WORDS ≡ n * PAGE_WORDS = omega arith in e))
    ∙ ap (λ (k : ℕ). writers_in 0 k last) (let e : n * PAGE_WORDS + PAGE_WORDS ≡ suc n * PAGE_WORDS = omega arith in e)))))
  where
    here : (b : Bool) → holds dirty n ≡ b → flat_map (in_page last) (cond b (n ∷ []) []) ≡ in_page last n
    here true is = append-nil (in_page last n)
    here false is = sym (none_in (n * PAGE_WORDS) PAGE_WORDS last (λ place least below.
        elim (cases_lt 0 (slice_index last place)) [
          | inl some ↦
              let there = marked place some in
              absurd (true≢false (sym there ∙ (ap (holds dirty) (let e : place / PAGE_WORDS ≡ n = omega (arith, least, below) in e) ∙ is)))
          | inr fewer ↦ omega (arith, fewer)
        ]))

-- no word after the last one has a step
none_past : (last : List ℕ) (first n : ℕ) → length last ≤ first → writers_in first n last ≡ []
none_past last first n past = none_in first n last (λ place least below. get_or_past last place 0 (omega (arith, past, least)))

pub none_in_rom : (pages page : ℕ) (last : List ℕ) → length last ≡ pages * PAGE_WORDS → pages ≤ page → in_page last page ≡ []
none_in_rom pages page last long past = none_past last (page * PAGE_WORDS) PAGE_WORDS (omega (arith, long, past))

-- one more page
pub page_more : (last pages : List ℕ) (k : ℕ) → k < length pages
    → flat_map (in_page last) (take (k + 1) pages) ≡ flat_map (in_page last) (take k pages) ++ in_page last (slice_index pages k)
page_more last pages k within =
    ap (flat_map (in_page last)) (take_more pages k 0 within)
    ∙ (flat_map-append (in_page last) (take k pages) (slice_index pages k ∷ [])
    ∙ ap (λ (ws : List Written). flat_map (in_page last) (take k pages) ++ ws) (append-nil (in_page last (slice_index pages k))))

-- all pages
pub all_pages : (pages : ℕ) (last dirty : List ℕ) → length last ≡ pages * PAGE_WORDS → AreInPages last dirty
    → flat_map (in_page last) (pages_where pages (holds dirty)) ≡ writers_in 0 (pages * PAGE_WORDS) last
all_pages pages last dirty long marked =
    let rest = (page_count_of pages - pages) * PAGE_WORDS in
    in_pages (page_count_of pages) last dirty marked
    ∙ (ap (λ (n : ℕ). writers_in 0 n last) (let e : page_count_of pages * PAGE_WORDS ≡ pages * PAGE_WORDS + rest = omega arith in e)
    ∙ (words_more 0 (pages * PAGE_WORDS) rest last
    ∙ (ap (λ (ws : List Written). writers_in 0 (pages * PAGE_WORDS) last ++ ws) (none_past last (0 + pages * PAGE_WORDS) rest (omega (arith, long)))
    ∙ append-nil (writers_in 0 (pages * PAGE_WORDS) last))))

kept_is : (o : Option ℕ) (step : ℕ) → kept_step o ≡ step + 1 → o ≡ Some step
kept_is None step is = absurd (let e : ⊥ = omega (arith, is) in e)
kept_is (Some other) step is = ap Some (let e : other ≡ step = omega (arith, is) in e)

kept_some : (o : Option ℕ) → IsSome o → 0 < kept_step o
kept_some None some = absurd (true≢false (sym some))
kept_some (Some step) some = omega arith

pub writers_are : (pages : ℕ) (steps : List Done) (last : List ℕ)
    → ((place : ℕ) → place < pages * PAGE_WORDS → slice_index last place ≡ kept_step (last_writer (Memory (4 * place)) steps))
    → ((address : ℕ) → ¬ IsRamWord pages address → last_writer (Memory address) steps ≡ None)
    → AreWriters pages steps (writers_in 0 (pages * PAGE_WORDS) last)
writers_are pages steps last is ram = record {
  each = λ k d within.
      let writer = slice_index_or (writers_in 0 (pages * PAGE_WORDS) last) k d in
      let here = each 0 (pages * PAGE_WORDS) last k d within in
      kept_is (last_writer (Memory (4 * writer.place)) steps) writer.step (sym (is writer.place (omega (arith, here.0))) ∙ here.1);
  all = λ place within some.
      all_there 0 (pages * PAGE_WORDS) place last (omega arith) (omega (arith, within)) (subst (λ (n : ℕ). 0 < n) (sym (is place within)) (kept_some (last_writer (Memory (4 * place)) steps) some));
  ram = ram;
  ascending = ascending 0 (pages * PAGE_WORDS) last;
}
