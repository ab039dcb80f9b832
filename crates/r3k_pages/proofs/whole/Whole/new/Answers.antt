use Rattle.std.proofs.Common.{◌≡◌, ◌∙◌, ◌+◌, ◌<◌, ◌≤◌, ◌/◌, List, ℕ, [], IsTrue, inl, inr, length-set, sym, ap, subst, map, length, slice_index, slice_index_or, slice_set, arith}
use Rattle.std.specs.declared.rc.Rc.{Rc}
use Rattle.std.specs.declared.alloc.Global.{Global}
use Rattle.std.specs.Simd.{first_chunks}
use Rattle.std.proofs.lemmas.List.{get_or-map, get_or-set_other, get_or-set_same, length-map, map-set, set-get_or}
use Rattle.r3k_word.specs.declared.layout.TheConstants.{PAGE_WORDS}
use Rattle.r3k_pages.specs.declared.block.TheConstants.{BLOCK_WORDS}
use Rattle.r3k_pages.specs.declared.block.Block.{Block}
use Rattle.r3k_pages.specs.declared.page.TheConstants.{PAGE_BLOCKS}
use Rattle.r3k_pages.specs.Blocks.{words_of}
use Rattle.r3k_pages.specs.Groups.{is_blank}
use Rattle.r3k_pages.proofs.Blocks.{chunk_at, words_are}
use Rattle.r3k_pages.proofs.Kept.{if_ok}
use Rattle.r3k_pages.proofs.Set.{which}
use Rattle.r3k_pages.proofs.whole.Whole.new.Goals as goal
use Rattle.r3k_pages.proofs.whole.Whole.new.Goals.{then-not-has+in_ok-blocks-2, else-not-has}

-- one block more is that of the page
one_more : (before after : List (List ℕ)) (part : List ℕ) (parts : List (List ℕ)) (index : ℕ) → after ≡ slice_set before index part → index < length before
    → part ≡ slice_index_or parts index [] → ((block : ℕ) → block < index → slice_index_or before block [] ≡ slice_index_or parts block [])
    → (block : ℕ) → block < index + 1 → slice_index_or after block [] ≡ slice_index_or parts block []
one_more before after part parts index set inside is each block within =
    ap (λ (xs : List (List ℕ)). slice_index_or xs block []) set
    ∙ elim (which block index) [
      | inl same ↦
          ap (λ (n : ℕ). slice_index_or (slice_set before index part) n []) same ∙ get_or-set_same before index part [] inside ∙ is
          ∙ ap (λ (n : ℕ). slice_index_or parts n []) (sym same)
      | inr other ↦ get_or-set_other before index block part [] other ∙ each block (omega (arith, within, other))
    ]

pub loop-index-preserved : goal.loop-index-preserved
loop-index-preserved c =
    let blocks = c.loop-index.blocks in
    let index = c.loop-index.index in
    let f : Rc Block Global → List ℕ = λ block. block.value in
    let low : index < length blocks = omega (arith, c.loop-index-test.true, c.loop-index.invariant.count) in
    let inside : index < length (map f blocks) = omega (arith, low, length-map blocks f) in
    elim c.if-not-has.branch [
      | then-not-has+in_ok-blocks-2 w ↦ record {
        count = ap length w.blocks-is ∙ length-set blocks index w.in_ok-blocks-2.field-0 ∙ c.loop-index.invariant.count;
        blocks = one_more (map f blocks) (map f c.if-not-has.blocks) w.in_ok-blocks-2.field-0.value c.as_chunks.result.0.now index
            (ap (map f) w.blocks-is ∙ map-set f blocks index w.in_ok-blocks-2.field-0) inside (w.in_ok-blocks-2.ensures {u = tt}) c.loop-index.invariant.blocks;
      }
      | else-not-has w ↦ record {
        count = ap length w.blocks-is ∙ c.loop-index.invariant.count;
        blocks = one_more (map f blocks) (map f c.if-not-has.blocks) (slice_index_or (map f blocks) index []) c.as_chunks.result.0.now index
            (ap (map f) w.blocks-is ∙ sym (set-get_or (map f blocks) index [])) inside
            (get_or-map f blocks index c.index-blocks-index.result [] low ∙ sym c.deref.ensures ∙ c.has.ensures.0 w.if-not-has.false) c.loop-index.invariant.blocks;
      }
    ]

-- all blocks are there
made : {A : Type 0} (f : A → List ℕ) (items : List A) (parts : List (List ℕ)) (words : List ℕ) (index : ℕ) → PAGE_BLOCKS ≤ index → length items ≡ PAGE_BLOCKS
    → length words ≡ PAGE_WORDS → parts ≡ first_chunks BLOCK_WORDS (length words / BLOCK_WORDS) words
    → ((block : ℕ) → block < index → slice_index_or (map f items) block [] ≡ slice_index_or parts block []) → words_of (map f items) ≡ words
made f items parts words index most count long cut each =
    let all : length (map f items) ≡ PAGE_BLOCKS = length-map items f ∙ count in
    words_are (map f items) words (omega (arith, long, all))
    (λ block place inside low.
    ap (λ (part : List ℕ). slice_index part place) (each block (omega (arith, inside, all, most)) ∙ ap (λ (xs : List (List ℕ)). slice_index_or xs block []) cut)
    ∙ chunk_at BLOCK_WORDS (length words / BLOCK_WORDS) words block place [] 0 (omega (arith, inside, all, long)) low)

pub of-requires-clause-blank : goal.of-requires-clause-blank
of-requires-clause-blank c =
    λ blank.
    subst (λ (words : List ℕ). IsTrue (is_blank words))
    (sym (made (λ block. block.value) c.loop-index.blocks c.as_chunks.result.0.now c.args.words.now c.loop-index.index c.loop-index-test.false
    c.loop-index.invariant.count c.requires c.as_chunks.ensures.front c.loop-index.invariant.blocks))
    (sym c.is_blank.ensures ∙ blank)

pub returns : goal.returns
returns c =
    if_ok _ _ c.of.result c.of.ensures
    (λ page is.
    is
    ∙ made (λ block. block.value) c.loop-index.blocks c.as_chunks.result.0.now c.args.words.now c.loop-index.index c.loop-index-test.false
    c.loop-index.invariant.count c.requires c.as_chunks.ensures.front c.loop-index.invariant.blocks)
