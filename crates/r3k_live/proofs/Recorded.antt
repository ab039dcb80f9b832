-- What is recorded of a run, after one more step.
use Rattle.std.proofs.Common.{◌≡◌, ℕ, zero, suc, ◌+◌, ◌*◌, ◌/◌, ◌%◌, ◌<◌, Bool, true, false, ◌||◌, ◌==◌, if◌then◌else◌, List, [], ◌∷◌, ◌++◌, length, Option, Some, None, IfSome, IsFalse, IsSome, IsTrue, nat_eq, slice_index, slice_index_or, slice_set, refl, sym, ap, subst, ◌∙◌, arith, inl, inr, get_or}
use Rattle.std.specs.List.{list_any}
use Rattle.std.proofs.Math.Path.{ap₂}
use Rattle.std.proofs.lemmas.Bool.{cases_Bool, cases_lt, eq-eqb, eqb-true, true≢false}
use Rattle.std.proofs.lemmas.Option.{none-some}
use Rattle.std.proofs.lemmas.List.{get_or-set_same, get_or-set_other}
use Rattle.dz_serial.specs.declared.write.Sent.{Sent}
use Rattle.r3k_word.specs.Layout.{page_of_place}
use Rattle.r3k_word.specs.declared.layout.TheConstants.{PAGE_BYTES, PAGE_WORDS}
use Rattle.r3k_machine.specs.declared.step.Done.{Done}
use Rattle.r3k_machine.specs.declared.target.Target.TheVariants.{Memory}
use Rattle.r3k_machine.specs.Run.{is_stored, last_where, last_writer, later}
use Rattle.r3k_machine.specs.Reports.{DifferAt, IsRamWord}
use Rattle.r3k_machine.proofs.Splits.{where_split, writer_split}
use Rattle.r3k_machine.specs.Locality.{is_page}
use Rattle.r3k_pages.specs.Pages.{SameOutside, SameOutsideBlocks, holds}
use Rattle.r3k_pages.specs.declared.block.TheConstants.{BLOCK_WORDS}
use Rattle.r3k_pages.specs.declared.page.TheConstants.{PAGE_BLOCKS}
use Rattle.r3k_live.specs.Stores.{AreInBlocks}
use Rattle.r3k_pages.proofs.Ascending.{none_where}
use Rattle.r3k_live.specs.Record.{dirty_pages, is_dirty, is_stored_at, sent_from, stores_at, stores_in, with_sent}
use Rattle.r3k_live.specs.Kept.{kept_step}
use Rattle.r3k_live.specs.Recording.{Recording, Records, page_of_store, with_writer}
use Rattle.r3k_live.specs.declared.recorder.SentAt.{SentAt}

-- a test of one more element
or-false : (a : Bool) → (a || false) ≡ a
or-false true = refl
or-false false = refl

pub or-assoc : (a b c : Bool) → (a || (b || c)) ≡ ((a || b) || c)
or-assoc true b c = refl
or-assoc false b c = refl

pub any_more : {A : Type 0} (p : A → Bool) (xs : List A) (x : A) → list_any p (xs ++ x ∷ []) ≡ (list_any p xs || p x)
any_more p [] x = or-false (p x)
any_more p (y ∷ xs) x = ap (λ (b : Bool). p y || b) (any_more p xs x) ∙ or-assoc (p y) (list_any p xs) (p x)

-- a page that is marked is marked again
pub marked_again : (page : ℕ) (set : List ℕ) (first : Option ℕ) → IfSome first (λ marked. IsTrue (holds set marked))
    → holds set page ≡ (holds set page || is_page page first)
marked_again page set None marked = sym (or-false (holds set page))
marked_again page set (Some other) marked =
    elim (cases_Bool (nat_eq other page)) [
      | inl here ↦ rw (subst (λ (n : ℕ). IsTrue (holds set n)) (eqb-true other page here) marked) refl
      | inr apart ↦ rw apart (sym (or-false (holds set page)))
    ]

-- the page of a word that a step stored into is marked again, where each page that was stored into is marked
pub stored_again : (page : ℕ) (set dirty : List ℕ) (stored second : Option ℕ) → IsSome stored
    → IfSome stored (λ address. IsTrue (holds dirty (address / PAGE_BYTES))) → ((other : ℕ) → IsTrue (holds dirty other) → IsTrue (holds set other))
    → IfSome stored (λ address. second ≡ Some (address / PAGE_BYTES)) → holds set page ≡ (holds set page || is_page page second)
stored_again page set dirty None second some again wider is = absurd (true≢false (sym some))
stored_again page set dirty (Some address) second some again wider is =
    rw is (marked_again page set (Some (address / PAGE_BYTES)) (wider (address / PAGE_BYTES) again))

-- the bytes that were sent
in_front : (first : ℕ) (sent : Option Sent) (xs ys : List SentAt) → with_sent first sent (xs ++ ys) ≡ with_sent first sent xs ++ ys
in_front first None xs ys = refl
in_front first (Some sent) xs ys = refl

pub sent_more : (first : ℕ) (steps : List Done) (done : Done)
    → sent_from first (steps ++ done ∷ []) ≡ sent_from first steps ++ with_sent (first + length steps) done.sent []
sent_more first [] done = ap (λ (n : ℕ). with_sent n done.sent []) (let e : first ≡ first + 0 = omega arith in e)
sent_more first (other ∷ steps) done =
    ap (with_sent first other.sent) (sent_more (suc first) steps done)
    ∙ (in_front first other.sent (sent_from (suc first) steps) (with_sent (suc first + length steps) done.sent [])
    ∙ ap (λ (n : ℕ). with_sent first other.sent (sent_from (suc first) steps) ++ with_sent n done.sent [])
    (let e : suc first + length steps ≡ first + suc (length steps) = omega arith in e))

-- the last writers
pub last_more : (pages place : ℕ) (last : List ℕ) (steps : List Done) (done : Done) → length last ≡ pages * PAGE_WORDS → place < pages * PAGE_WORDS
    → IfSome done.stored (IsRamWord pages) → slice_index last place ≡ kept_step (last_writer (Memory (4 * place)) steps)
    → slice_index (with_writer last (length steps) done.stored) place ≡ kept_step (last_writer (Memory (4 * place)) (steps ++ done ∷ []))
last_more pages place last steps done long within ram so_far =
    at_store done.stored ram
    ∙ sym (ap kept_step (writer_split (Memory (4 * place)) steps (done ∷ [])))
  where
    at_store : (stored : Option ℕ) → IfSome stored (IsRamWord pages)
        → slice_index (with_writer last (length steps) stored) place ≡ kept_step (later (length steps) (later 1 None (if is_stored (4 * place) stored then Some 0 else None)) (last_writer (Memory (4 * place)) steps))
    at_store None ram = so_far
    at_store (Some address) ram =
        elim (cases_Bool (nat_eq address (4 * place))) [
          | inl here ↦
              let same : address ≡ 4 * place = eqb-true address (4 * place) here in
              ap (λ (n : ℕ). slice_index (slice_set last n (length steps + 1)) place) (let e : address / 4 ≡ place = omega (arith, same) in e)
              ∙ (get_or-set_same last place (length steps + 1) 0 (rw long within)
              ∙ rw here (ap (λ (n : ℕ). n + 1) (let e : length steps ≡ length steps + 0 = omega arith in e)))
          | inr apart ↦
              get_or-set_other last (address / 4) place (length steps + 1) 0
              (λ same. true≢false (sym (eq-eqb address (4 * place) (omega (arith, same, ram.0))) ∙ apart))
              ∙ (so_far ∙ rw apart refl)
        ]

-- the last steps with a destination
pub destination_more : (number : ℕ) (last : List ℕ) (steps : List Done) (done : Done) → number < length last
    → slice_index last number ≡ kept_step (last_where (λ done. done.wrote == number) steps)
    → slice_index (slice_set last done.wrote (length steps + 1)) number ≡ kept_step (last_where (λ done. done.wrote == number) (steps ++ done ∷ []))
destination_more number last steps done within so_far =
    let split = ap kept_step (where_split (λ done. done.wrote == number) steps (done ∷ [])) in
    elim (cases_Bool (nat_eq done.wrote number)) [
      | inl here ↦
          ap (λ (n : ℕ). slice_index (slice_set last n (length steps + 1)) number) (eqb-true done.wrote number here)
          ∙ (get_or-set_same last number (length steps + 1) 0 within
          ∙ (ap (λ (n : ℕ). n + 1) (let e : length steps ≡ length steps + 0 = omega arith in e)
          ∙ sym (split ∙ rw here refl)))
      | inr apart ↦
          get_or-set_other last done.wrote number (length steps + 1) 0 (λ same. true≢false (sym (eq-eqb done.wrote number (sym same)) ∙ apart))
          ∙ (so_far ∙ sym (split ∙ rw apart refl))
    ]

-- a page of a word is dirty where it was, or where the word is one of it
pub page_stored : (page : ℕ) (stored : Option ℕ) → is_page page (page_of_store stored) ≡ stores_in page stored
page_stored page None = refl
page_stored page (Some address) = refl

-- a word of a page that was not stored into
neither : (a b : Bool) → IsFalse (a || b) → (a ≡ false) × (b ≡ false)
neither true b h = absurd (true≢false h)
neither false b h = (refl, h)

-- a word that a step did not store into
pub unchanged : (place : ℕ) (stored : Option ℕ) (old new : List ℕ) → DifferAt stored old new → IsFalse (stores_at place stored) → slice_index old place ≡ slice_index new place
unchanged place None old new same clean = ap (λ (words : List ℕ). slice_index words place) (sym same)
unchanged place (Some address) old new change clean =
    sym (ap (λ (words : List ℕ). slice_index words place) change.1
    ∙ get_or-set_other old (address / 4) place change.0 0 (λ same. true≢false (sym (eq-eqb (address / 4) place (sym same)) ∙ clean)))

pub stayed : (steps : List Done) (done : Done) (first old new : List ℕ) → DifferAt done.stored old new
    → ((place : ℕ) → IsFalse (is_stored_at steps place) → slice_index first place ≡ slice_index old place)
    → (place : ℕ) → IsFalse (is_stored_at (steps ++ done ∷ []) place) → slice_index first place ≡ slice_index new place
stayed steps done first old new differ so_far place clean =
    let parts = neither (is_stored_at steps place) (stores_at place done.stored) (sym (any_more (λ done. stores_at place done.stored) steps done) ∙ clean) in
    so_far place parts.0 ∙ unchanged place done.stored old new differ parts.1

-- a page that no step stored into has no word that one did
pub clean_word : (steps : List Done) (place : ℕ) → IsFalse (is_dirty steps (page_of_place place)) → IsFalse (is_stored_at steps place)
clean_word [] place clean = refl
clean_word (done ∷ steps) place clean =
    let parts = neither (stores_in (page_of_place place) done.stored) (is_dirty steps (page_of_place place)) clean in
    ap₂ (λ (a b : Bool). a || b) (by_page done.stored parts.0) (clean_word steps place parts.1)
  where
    by_page : (stored : Option ℕ) → IsFalse (stores_in (page_of_place place) stored) → stores_at place stored ≡ false
    by_page None clean = refl
    by_page (Some address) clean =
        elim (cases_Bool (nat_eq (address / 4) place)) [
          | inl here ↦ absurd (true≢false (sym (eq-eqb (address / 4096) (page_of_place place) (let at = eqb-true (address / 4) place here in omega (arith, at))) ∙ clean))
          | inr apart ↦ apart
        ]

-- no step stored into a word that has no last writer
none_stored : (steps : List Done) (place : ℕ) → ((address : ℕ) → address / 4 ≡ place → last_writer (Memory address) steps ≡ None) → IsFalse (is_stored_at steps place)
none_stored [] place none = refl
none_stored (done ∷ steps) place none =
    ap₂ (λ (a b : Bool). a || b) (here done.stored (λ address at. (apart address at).1)) (none_stored steps place (λ address at. (apart address at).0))
  where
    split : (rest : Option ℕ) (now : Bool) → later 1 rest (if now then Some 0 else None) ≡ None → (rest ≡ None) × (now ≡ false)
    split (Some place) now is = absurd (none-some _ (sym is))
    split None true is = absurd (none-some _ (sym is))
    split None false is = (refl, refl)

    apart : (address : ℕ) → address / 4 ≡ place → (last_writer (Memory address) steps ≡ None) × (is_stored address done.stored ≡ false)
    apart address at = split (last_writer (Memory address) steps) (is_stored address done.stored) (none address at)

    here : (stored : Option ℕ) → ((address : ℕ) → address / 4 ≡ place → is_stored address stored ≡ false) → stores_at place stored ≡ false
    here None other = refl
    here (Some address) other =
        elim (cases_Bool (nat_eq (address / 4) place)) [
          | inl same ↦ absurd (true≢false (sym (eq-eqb address address refl) ∙ other address (eqb-true (address / 4) place same)))
          | inr differs ↦ differs
        ]

-- a word of which no last step is recorded
pub no_last : (pages : ℕ) (steps : List Done) (r : Recording) (place : ℕ) → Records pages steps r → slice_index r.last place ≡ 0 → IsFalse (is_stored_at steps place)
no_last pages steps r place records zero_there =
    none_stored steps place
    (λ address at.
    elim (cases_Bool (nat_eq (address % 4) 0)) [
      | inl aligned ↦ elim (cases_lt place (pages * PAGE_WORDS)) [
        | inl ram ↦
            let is : address ≡ 4 * place = let even = eqb-true (address % 4) 0 aligned in omega (arith, at, even) in
            ap (λ (address : ℕ). last_writer (Memory address) steps) is ∙ none_kept (last_writer (Memory (4 * place)) steps) (sym (records.last place ram) ∙ zero_there)
        | inr outside ↦ records.ram address (λ ram. let inside = ram.1 in omega (arith, inside, at, outside))
      ]
      | inr odd ↦ records.ram address (λ ram. true≢false (sym (eq-eqb (address % 4) 0 ram.0) ∙ odd))
    ])
  where
    none_kept : (last : Option ℕ) → kept_step last ≡ 0 → last ≡ None
    none_kept None is = refl
    none_kept (Some step) is = absurd (let e : ⊥ = omega (arith, is) in e)

-- the pages that may have changed, after more steps
pub widened : (pages : ℕ) (steps : List Done) (r : Recording) (before dirty after : List ℕ) (base old new : List ℕ) → Records pages steps r → dirty ≡ r.dirty
    → ((page : ℕ) → holds after page ≡ (holds before page || holds dirty page))
    → SameOutside before base old → SameOutside (dirty_pages pages steps) old new → SameOutside after base new
widened pages steps r before dirty after base old new recorded same wider so_far stayed place free =
    let page = page_of_place place in
    let parts = neither (holds before page) (holds dirty page) (sym (wider page) ∙ free) in
    let clean : is_dirty steps page ≡ false = sym (recorded.dirty page) ∙ (ap (λ (set : List ℕ). holds set page) (sym same) ∙ parts.1) in
    so_far place parts.0 ∙ stayed place (none_where pages (is_dirty steps) page clean)

-- the same of marked blocks
pub widened_blocks : (pages : ℕ) (steps : List Done) (r : Recording) (before more after : List Bool) (dirty base old new : List ℕ) → Records pages steps r → dirty ≡ r.dirty
    → ((block : ℕ) → IsFalse (slice_index_or after block false) → IsFalse (slice_index_or before block false))
    → ((block : ℕ) → IsTrue (holds dirty (block / PAGE_BLOCKS)) → IsFalse (slice_index_or after block false) → IsFalse (slice_index_or more block false))
    → AreInBlocks r.last more → SameOutsideBlocks before base old → SameOutside (dirty_pages pages steps) old new
    → ((place : ℕ) → slice_index r.last place ≡ 0 → slice_index old place ≡ slice_index new place) → SameOutsideBlocks after base new
widened_blocks pages steps r before more after dirty base old new recorded same kept added marked so_far outside stayed place free =
    let page = page_of_place place in
    so_far place (kept (place / BLOCK_WORDS) free)
    ∙ elim (cases_Bool (holds dirty page)) [
      | inl held ↦
          let here : page ≡ place / BLOCK_WORDS / PAGE_BLOCKS = omega arith in
          let unmarked = added (place / BLOCK_WORDS) (subst (λ (page : ℕ). IsTrue (holds dirty page)) here held) free in
          elim (cases_lt 0 (slice_index r.last place)) [
            | inl some ↦ absurd (true≢false (sym (marked place some) ∙ unmarked))
            | inr none ↦ stayed place (omega (arith, none))
          ]
      | inr apart ↦
          outside place (none_where pages (is_dirty steps) page (sym (recorded.dirty page) ∙ (ap (λ (set : List ℕ). holds set page) (sym same) ∙ apart)))
    ]

-- no step stores into what is no word of RAM
pub ram_more : (pages address : ℕ) (steps : List Done) (done : Done) → IfSome done.stored (IsRamWord pages) → ¬ IsRamWord pages address
    → last_writer (Memory address) steps ≡ None → last_writer (Memory address) (steps ++ done ∷ []) ≡ None
ram_more pages address steps done ram other so_far =
    writer_split (Memory address) steps (done ∷ [])
    ∙ (ap (λ (b : Bool). later (length steps) (later 1 None (if b then Some 0 else None)) (last_writer (Memory address) steps)) (not_here done.stored ram) ∙ so_far)
  where
    not_here : (stored : Option ℕ) → IfSome stored (IsRamWord pages) → is_stored address stored ≡ false
    not_here None ram = refl
    not_here (Some there) ram =
        elim (cases_Bool (nat_eq there address)) [
          | inl here ↦ absurd (other (Rattle.std.proofs.Common.subst (IsRamWord pages) (eqb-true there address here) ram))
          | inr apart ↦ apart
        ]
