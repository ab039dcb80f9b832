use Rattle.std.proofs.Common.{◌≡◌, ◌+◌, ◌*◌, ◌<◌, ◌≤◌, ◌∙◌, ℕ, List, ap, arith, inl, inr, length, map, refl, slice_index_or, sym}
use Rattle.std.specs.Prelude.{nat_lt, unwrap_or}
use Rattle.std.specs.FinMap.{get}
use Rattle.std.specs.List.{range_with_len}
use Rattle.std.proofs.lemmas.Bool.{cases_Bool}
use Rattle.std.proofs.lemmas.Bool.Decides.{nat_tests}
use Rattle.std.proofs.lemmas.Grind.{common_steps}
use Rattle.std.proofs.lemmas.List.{ext_get_or}
use Rattle.std.proofs.lemmas.List.FromFn.{get_or-map-range_with_len, length-map-range_with_len, map-range_with_len_more}
use Rattle.r3k_word.specs.declared.layout.TheConstants.{PAGE_BYTES, PAGE_WORDS}
use Rattle.r3k_word.specs.Layout.{address_of_place}
use Rattle.r3k_machine.specs.Reset.{reset_word}
use Rattle.r3k_live.proofs.flat.add_page.Goals as goal

-- the words of a page stand one after another
above : (pages page place : ℕ) → page * PAGE_WORDS ≤ place → place < (page + 1) * PAGE_WORDS → address_of_place pages (page * PAGE_WORDS) ≤ address_of_place pages place
above pages page place low high = grind (arith, nat_tests)

below : (pages page place : ℕ) → page * PAGE_WORDS ≤ place → place < (page + 1) * PAGE_WORDS → address_of_place pages place < address_of_place pages (page * PAGE_WORDS) + PAGE_BYTES
below pages page place low high = grind (arith, nat_tests)

-- a list of what a function gives, filled up with 0 where it gives that
filled : (f : ℕ → ℕ) (n m : ℕ) (before after : List ℕ) → before ≡ map f (range_with_len 0 n) → length after ≡ m
    → ((k d : ℕ) → k < m → k < n → slice_index_or after k d ≡ slice_index_or before k d) → ((k d : ℕ) → n ≤ k → k < m → slice_index_or after k d ≡ 0)
    → ((k : ℕ) → n ≤ k → k < m → f k ≡ 0) → after ≡ map f (range_with_len 0 m)
filled f n m before after is long low high zeros = ext_get_or 0 after (map f (range_with_len 0 m)) (long ∙ sym (length-map-range_with_len f 0 m)) (λ i within.
    let inside : i < m = omega (arith, within, long) in
    let given = get_or-map-range_with_len f 0 m i i 0 inside (omega arith) in
    elim (cases_Bool (nat_lt i n)) [
      | inl less ↦
          let there : i < n = grind (arith, nat_tests, less) in
          low i 0 inside there ∙ (ap (λ (l : List ℕ). slice_index_or l i 0) is ∙ (get_or-map-range_with_len f 0 n i i 0 there (omega arith) ∙ sym given))
      | inr more ↦
          let there : n ≤ i = grind (arith, nat_tests, more) in
          high i 0 there inside ∙ (sym (zeros i there inside) ∙ sym given)
    ])

pub returns-then-is_blank : goal.returns-then-is_blank
returns-then-is_blank c =
    let pages = c.args.ram_pages in
    let first = c.args.page * PAGE_WORDS in
    let last = c.args.page * PAGE_WORDS + PAGE_WORDS in
    let resized = c.in_ok-resize.ensures {u = tt} in
    let of = reset_word pages c.args.image.now in
    let none : (place : ℕ) → first ≤ place → place < last → of place ≡ 0 = λ place low high.
    ap (λ o. unwrap_or o 0)
    (c.is_blank.ensures.0 c.if-is_blank.true (address_of_place pages place) (rw c.address_of-start.ensures (above pages c.args.page place low (omega (arith, high))))
    (rw c.address_of-start.ensures (below pages c.args.page place low (omega (arith, high))))) in
    let count : length c.args.words.now.items ≡ first = ap length c.requires.so_far ∙ length-map-range_with_len of 0 first in
    let all = filled of first last c.args.words.now.items c.resize.new.self.items c.requires.so_far (let e : length c.resize.new.self.items ≡ last = omega (arith, c.resize.new.self.ok, resized.len) in e)
    (λ k d inside low. resized.by_index.0 k d inside (omega (arith, low, count, c.args.words.now.ok)))
    (λ k d high inside. resized.by_index.1 k d refl (omega (arith, high, count, c.args.words.now.ok)) inside) none in
    all ∙ ap (λ (n : ℕ). map of (range_with_len 0 n)) (let e : last ≡ (c.args.page + 1) * PAGE_WORDS = omega arith in e)

pub loop-place-preserved : goal.loop-place-preserved
loop-place-preserved c =
    let place = c.loop-place.place in
    let word : c.unwrap_or.result ≡ reset_word c.args.ram_pages c.args.image.now place =
    c.unwrap_or.ensures ∙ ap (λ o. unwrap_or o 0) (c.word.ensures ∙ ap (λ address. get c.args.image.now.words address) c.address_of.ensures) in
    let more = map-range_with_len_more (reset_word c.args.ram_pages c.args.image.now) 0 place place (omega arith) in
    grind (arith, common_steps)
