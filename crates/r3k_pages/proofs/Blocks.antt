-- The words of a page by its blocks.
use Rattle.std.proofs.Common.{◌≡◌, ℕ, zero, suc, ◌+◌, ◌-◌, ◌*◌, ◌/◌, ◌%◌, ◌<◌, List, [], drop, length, map, slice_index, slice_index_or, inl, inr, sym, ap, subst, ◌∙◌, arith}
use Rattle.std.proofs.lemmas.List.FromFn.{get_or-map-range_with_len, length-map-range_with_len}
use Rattle.std.proofs.lemmas.List.{get_or-drop, get_or-map, get_or-take, length-map}
use Rattle.std.proofs.lemmas.Bool.{cases_lt}
use Rattle.std.proofs.lemmas.Grind.{same_number_lists}
use Rattle.std.specs.Simd.{first_chunks}
use Rattle.r3k_word.specs.declared.layout.TheConstants.{PAGE_WORDS}
use Rattle.r3k_pages.specs.declared.page.TheConstants.{PAGE_BLOCKS}
use Rattle.r3k_pages.specs.declared.block.TheConstants.{BLOCK_WORDS}
use Rattle.r3k_pages.specs.Blocks.{IsBlockOf, SameBlock, word_of, words_of}

pub words_long : (blocks : List (List ℕ)) → length (words_of blocks) ≡ length blocks * BLOCK_WORDS
words_long blocks = length-map-range_with_len (word_of blocks) 0 (length blocks * BLOCK_WORDS)

pub word_at : (blocks : List (List ℕ)) (place : ℕ) → place < length blocks * BLOCK_WORDS → slice_index (words_of blocks) place ≡ word_of blocks place
word_at blocks place within = get_or-map-range_with_len (word_of blocks) 0 (length blocks * BLOCK_WORDS) place place 0 within (omega arith)

-- the words of a block
pub block_at : (blocks : List (List ℕ)) (block place : ℕ) → block < length blocks → place < BLOCK_WORDS
    → slice_index (slice_index_or blocks block []) place ≡ slice_index (words_of blocks) (block * BLOCK_WORDS + place)
block_at blocks block place inside low =
    let first : (block * BLOCK_WORDS + place) / BLOCK_WORDS ≡ block = omega (arith, low) in
    let second : (block * BLOCK_WORDS + place) % BLOCK_WORDS ≡ place = omega (arith, low) in
    sym (word_at blocks (block * BLOCK_WORDS + place) (omega (arith, inside, low))
    ∙ ap (λ (n : ℕ). slice_index (slice_index_or blocks n []) ((block * BLOCK_WORDS + place) % BLOCK_WORDS)) first
    ∙ ap (slice_index (slice_index_or blocks block [])) second)

-- blocks that have the words of a page
pub words_are : (blocks : List (List ℕ)) (words : List ℕ) → length words ≡ length blocks * BLOCK_WORDS
    → ((block place : ℕ) → block < length blocks → place < BLOCK_WORDS
    → slice_index (slice_index_or blocks block []) place ≡ slice_index words (block * BLOCK_WORDS + place))
    → words_of blocks ≡ words
words_are blocks words long each =
    same_number_lists (words_of blocks) words (words_long blocks ∙ sym long)
    (λ place within.
    let inside : place < length blocks * BLOCK_WORDS = subst (λ (n : ℕ). place < n) (words_long blocks) within in
    let block : place / BLOCK_WORDS < length blocks = omega (arith, inside) in
    let low : place % BLOCK_WORDS < BLOCK_WORDS = omega arith in
    let back : place / BLOCK_WORDS * BLOCK_WORDS + place % BLOCK_WORDS ≡ place = omega arith in
    word_at blocks place inside ∙ each (place / BLOCK_WORDS) (place % BLOCK_WORDS) block low ∙ ap (slice_index words) back)

pub page_long : {A : Type 0} (f : A → List ℕ) (items : List A) → length items ≡ PAGE_BLOCKS → length (words_of (map f items)) ≡ PAGE_WORDS
page_long f items long = words_long (map f items) ∙ (let same : length (map f items) ≡ length items = length-map items f in omega (arith, same, long))

-- a block that a page keeps
pub kept_block : {A : Type 0} (f : A → List ℕ) (items : List A) (d : A) (block place : ℕ) → block < length items → place < BLOCK_WORDS
    → slice_index (f (slice_index_or items block d)) place ≡ slice_index (words_of (map f items)) (block * BLOCK_WORDS + place)
kept_block f items d block place inside low =
    ap (λ (words : List ℕ). slice_index words place) (sym (get_or-map f items block d [] inside))
    ∙ block_at (map f items) block place (omega (arith, inside, length-map items f)) low

-- an element of a chunk
pub chunk_at : {A : Type 0} (size count : ℕ) (items : List A) (chunk place : ℕ) (c : List A) (d : A) → chunk < count → place < size
    → slice_index_or (slice_index_or (first_chunks size count items) chunk c) place d ≡ slice_index_or items (chunk * size + place) d
chunk_at size zero items chunk place c d inside low = absurd (let e : ⊥ = omega (arith, inside) in e)
chunk_at size (suc count) items zero place c d inside low =
    get_or-take size items place d low ∙ ap (λ (n : ℕ). slice_index_or items n d) (let e : place ≡ 0 * size + place = omega arith in e)
chunk_at size (suc count) items (suc chunk) place c d inside low =
    chunk_at size count (drop size items) chunk place c d (omega (arith, inside)) low
    ∙ get_or-drop size items (chunk * size + place) d
    ∙ ap (λ (n : ℕ). slice_index_or items n d) (let e : size + (chunk * size + place) ≡ suc chunk * size + place = grind arith in e)

-- one block more of a page is the same
pub same_more : (a b : List ℕ) (block : ℕ) → SameBlock block a b → ((place : ℕ) → place < block * BLOCK_WORDS → slice_index a place ≡ slice_index b place)
    → (place : ℕ) → place < (block + 1) * BLOCK_WORDS → slice_index a place ≡ slice_index b place
same_more a b block same before place within =
    elim (cases_lt place (block * BLOCK_WORDS)) [
      | inl earlier ↦ before place earlier
      | inr here ↦
          let at = place - block * BLOCK_WORDS in
          let low : at < BLOCK_WORDS = omega (arith, within, here) in
          let back : block * BLOCK_WORDS + at ≡ place = omega (arith, here) in
          ap (slice_index a) (sym back) ∙ (same at low ∙ ap (slice_index b) back)
    ]

-- the words of a block that two pages keep the same
pub same_kept : (a b x y : List ℕ) (block : ℕ) → IsBlockOf a block x → IsBlockOf b block y → x ≡ y → SameBlock block a b
same_kept a b x y block of_a of_b same = λ place low. sym (of_a place low) ∙ (ap (λ (words : List ℕ). slice_index words place) same ∙ of_b place low)

-- a part of the words of a page
pub part_of : (words : List ℕ) (parts : List (List ℕ)) (block : ℕ) → parts ≡ first_chunks BLOCK_WORDS (length words / BLOCK_WORDS) words → length words ≡ PAGE_WORDS
    → block < PAGE_BLOCKS → IsBlockOf words block (slice_index_or parts block [])
part_of words parts block cut long within = λ place low.
    ap (λ (xs : List (List ℕ)). slice_index (slice_index_or xs block []) place) cut
    ∙ chunk_at BLOCK_WORDS (length words / BLOCK_WORDS) words block place [] 0 (omega (arith, within, long)) low
