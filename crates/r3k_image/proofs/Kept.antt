-- What every image keeps.
use Rattle.std.proofs.Common.{◌≡◌, ℕ, ◌-◌, ◌/◌, ◌%◌, ◌^◌, ◌<◌, ◌≤◌, ◌⊎◌, inl, inr, List, Option, Some, None, refl, sym, ap, subst, ◌∙◌, arith}
use Rattle.std.specs.Prelude.{IsTrue, IsSome, IfSome, is_some}
use Rattle.std.specs.FinMap.{get}
use Rattle.std.proofs.lemmas.Bool.{eq-eqb, lt-ltb, le-ltb, le-leb}
use Rattle.std.proofs.lemmas.Option.{get_or_from_slice_get}
use Rattle.r3k_word.specs.declared.layout.TheConstants.{MAX_RAM_PAGES, ROM_START}
use Rattle.r3k_word.specs.Layout.{place_of_word}
use Rattle.r3k_image.specs.Boot.{Boot, ram_end, rom_end, IsBoot}
use Rattle.r3k_image.specs.Segments.{WordsAt, AreSegments, set_words, IsMadeOf}
use Rattle.r3k_image.proofs.Placing.{is_last}
use Rattle.r3k_image.proofs.Lookup.{IsSet, is_set}

-- an address of RAM or ROM has a place
has_place : (q : ℕ) → q % 4 ≡ 0 → (q < ram_end) ⊎ ((ROM_START ≤ q) × (q < rom_end)) → IsSome (place_of_word MAX_RAM_PAGES q)
has_place q aligned (inl ram) = rw (eq-eqb (q % 4) 0 aligned, lt-ltb q ram_end ram) refl
has_place q aligned (inr rom) = rw (eq-eqb (q % 4) 0 aligned, le-ltb q ram_end (omega arith), le-leb ROM_START q rom.0, lt-ltb q rom_end rom.1) refl

set_has_place : (q : ℕ) (ss : List WordsAt) (w : ℕ) → AreSegments 0 ss → IsSet q ss w → IsSome (place_of_word MAX_RAM_PAGES q)
set_has_place q ss w h set =
    let l = is_last 0 q ss set.segment h set.last in
    let p = l.good.place in
    has_place q (omega (arith, set.aligned, p.aligned, l.below))
    (elim p.inside [
      | inl ram ↦ inl (omega (arith, set.within, l.below, ram))
      | inr rom ↦ inr (omega (arith, l.below, rom.0), omega (arith, set.within, l.below, rom.1))
    ])

set_is_word : (q : ℕ) (ss : List WordsAt) (w : ℕ) → AreSegments 0 ss → IsSet q ss w → w < 2 ^ 32
set_is_word q ss w h set =
    let l = is_last 0 q ss set.segment h set.last in
    let e = get_or_from_slice_get set.segment.words ((q - set.segment.address) / 4) w w set.word in
    subst (λ n. n < 2 ^ 32) e (l.good.words _ w set.within)

-- a contained key has a value
pub contained : (o : Option ℕ) → IsTrue (is_some o) → (w : ℕ) × (o ≡ Some w)
contained None h = absurd cc
contained (Some w) h = (w, refl)

if_some : (o : Option ℕ) → ((w : ℕ) → o ≡ Some w → w < 2 ^ 32) → IfSome o (λ w. w < 2 ^ 32)
if_some None h = tt
if_some (Some w) h = h w refl

pub is_boot : (ss : List WordsAt) (boot : Boot) → IsMadeOf ss boot → IsBoot boot
is_boot ss boot made =
    let at : (q : ℕ) → get boot.words q ≡ get (set_words ss) q = λ q. ap (λ m. get m q) made.words in
    record {
      places = λ q h. let w = contained (get boot.words q) h in set_has_place q ss w.0 made.stand (is_set q ss w.0 made.stand (sym (at q) ∙ w.1));
      values = λ q. if_some (get boot.words q) (λ w e. set_is_word q ss w made.stand (is_set q ss w made.stand (sym (at q) ∙ e)));
      byte_time = made.byte_time;
      unit = made.unit;
      clock_start = made.clock_start;
    }
