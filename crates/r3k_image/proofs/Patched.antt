-- What a patched image keeps: the bounds of an image, and that it fits a machine.
use Rattle.std.proofs.Common.{◌≡◌, ◌≢◌, ℕ, ◌+◌, ◌*◌, ◌%◌, ◌^◌, ◌<◌, ◌≤◌, Bool, true, false, cond, ◌⊎◌, inl, inr, Option, Some, None, Ok, Err, refl, sym, ap, subst, ◌∙◌, arith}
use Rattle.std.specs.Prelude.{IsSome, IfSome, is_some, nat_lt, nat_le, ◌&&◌}
use Rattle.std.specs.Ordering.{nat_cmp}
use Rattle.std.specs.Cmp.{unsigned_tied, nat_cmp_total}
use Rattle.std.specs.FinMap as map
use Rattle.std.specs.FinMap.{get-insert}
use Rattle.std.proofs.lemmas.Bool.{eq-eqb, ne_eqb, lt-ltb, ltb-true, leb-true, and_parts, cases_eq, cases_Bool}
use Rattle.r3k_word.specs.declared.layout.TheConstants.{PAGE_WORDS, PAGE_BYTES, MAX_RAM_PAGES, ROM_START, ROM_BYTES}
use Rattle.r3k_word.specs.Layout.{place_of_word}
use Rattle.r3k_image.specs.Boot.{Boot, IsBoot, FitsRam, ram_end}
use Rattle.r3k_image.specs.Patch.{patched, patched_at, patching}
use Rattle.refusal.specs.declared.fault.Fault.TheVariants.{Unaligned}

-- ---- a map with one more word, or another value of it

same_key : (m : map.FinMap nat_cmp ℕ) (k v q : ℕ) → q ≡ k → map.get (map.insert m k v) q ≡ Some v
same_key m k v q e = get-insert nat_cmp_total m k v q ∙ ap (λ b. cond b (Some v) (map.get m q)) (unsigned_tied q k ∙ eq-eqb q k e)

other_key : (m : map.FinMap nat_cmp ℕ) (k v q : ℕ) → q ≢ k → map.get (map.insert m k v) q ≡ map.get m q
other_key m k v q n = get-insert nat_cmp_total m k v q ∙ ap (λ b. cond b (Some v) (map.get m q)) (unsigned_tied q k ∙ ne_eqb q k n)

pub boot_patched : (k v : ℕ) (boot : Boot) → IsBoot boot → IsSome (place_of_word MAX_RAM_PAGES k) → v < 2 ^ 32 → IsBoot (patched k v boot)
boot_patched k v boot good place fits = record {
  places = λ q h. elim (cases_eq q k) [
    | inl e ↦ subst (λ n. IsSome (place_of_word MAX_RAM_PAGES n)) (sym e) place
    | inr n ↦ good.places q (sym (ap is_some (other_key boot.words k v q n)) ∙ h)
  ];
  values = λ q. elim (cases_eq q k) [
    | inl e ↦ subst (λ o. IfSome o (λ w. w < 2 ^ 32)) (sym (same_key boot.words k v q e)) fits
    | inr n ↦ subst (λ o. IfSome o (λ w. w < 2 ^ 32)) (sym (other_key boot.words k v q n)) (good.values q)
  ];
  byte_time = good.byte_time;
  unit = good.unit;
  clock_start = good.clock_start;
}

-- ---- the place of a word of a machine

record IsPlace (pages k : ℕ) : Type 0 where
  pub aligned : k % 4 ≡ 0
  pub inside : (nat_lt k (pages * PAGE_BYTES) ≡ true) ⊎ ((nat_le ROM_START k && nat_lt k (ROM_START + ROM_BYTES)) ≡ true)

is_place : (pages k : ℕ) → IsSome (place_of_word pages k) → IsPlace pages k
is_place pages k h =
    elim (cases_eq (k % 4) 0) [
      | inl aligned ↦ record {
        aligned = aligned;
        inside = elim (cases_Bool (nat_lt k (pages * PAGE_BYTES))) [
          | inl ram ↦ inl ram
          | inr high ↦ elim (cases_Bool (nat_le ROM_START k && nat_lt k (ROM_START + ROM_BYTES))) [
            | inl rom ↦ inr rom
            | inr out ↦ absurd (let f : ◌≡◌ {A = Bool} false true = rw (eq-eqb (k % 4) 0 aligned, high, out) at h in cc)
          ]
        ];
      }
      | inr odd ↦ absurd (let f : ◌≡◌ {A = Bool} false true = rw (ne_eqb (k % 4) 0 odd) at h in cc)
    ]

in_ram : (pages k : ℕ) → IsSome (place_of_word pages k) → k < ram_end → k < pages * (4 * PAGE_WORDS)
in_ram pages k h low =
    elim (is_place pages k h).inside [
      | inl ram ↦ let h : k < pages * PAGE_BYTES = ltb-true _ _ ram in omega arith
      | inr rom ↦ absurd (let h : ROM_START ≤ k = leb-true _ _ (and_parts _ _ rom).0 in omega arith)
    ]

pub fits_patched : (pages k v : ℕ) (boot : Boot) → IsSome (place_of_word pages k) → FitsRam pages boot → FitsRam pages (patched k v boot)
fits_patched pages k v boot place fits = λ q h low.
    elim (cases_eq q k) [
      | inl e ↦ subst (λ n. n < pages * (4 * PAGE_WORDS)) (sym e) (in_ram pages k place (subst (λ n. n < ram_end) e low))
      | inr n ↦ fits q (sym (ap is_some (other_key boot.words k v q n)) ∙ h) low
    ]

-- a place in a machine is one in the machine with the most pages
placed_in_most : (pages k : ℕ) → pages ≤ MAX_RAM_PAGES → IsSome (place_of_word pages k) → IsSome (place_of_word MAX_RAM_PAGES k)
placed_in_most pages k few h =
    let p = is_place pages k h in
    elim p.inside [
      | inl ram ↦
          let h : k < pages * PAGE_BYTES = ltb-true _ _ ram in
          let low : nat_lt k ram_end ≡ true = lt-ltb _ _ (omega arith) in
          rw (eq-eqb (k % 4) 0 p.aligned, low) refl
      | inr rom ↦ elim (cases_Bool (nat_lt k ram_end)) [
        | inl low ↦ rw (eq-eqb (k % 4) 0 p.aligned, low) refl
        | inr high ↦ rw (eq-eqb (k % 4) 0 p.aligned, high, rom) refl
      ]
    ]

taken_at : (o : Option ℕ) (boot : Boot) → IsSome o → patched_at o boot ≡ Ok boot
taken_at (Some place) boot h = refl
taken_at None boot h = absurd cc

pub patch_taken : (k v : ℕ) (boot : Boot) → IsSome (place_of_word MAX_RAM_PAGES k) → patching MAX_RAM_PAGES k v boot ≡ Ok (patched k v boot)
patch_taken k v boot place =
    let aligned = (is_place MAX_RAM_PAGES k place).aligned in
    ap (λ b. cond b (patched_at (place_of_word MAX_RAM_PAGES k) (patched k v boot)) (Err Unaligned)) (eq-eqb (k % 4) 0 aligned)
    ∙ taken_at (place_of_word MAX_RAM_PAGES k) (patched k v boot) place

pub patch_taken_in : (pages k v : ℕ) (boot : Boot) → pages ≤ MAX_RAM_PAGES → IsSome (place_of_word pages k) → patching MAX_RAM_PAGES k v boot ≡ Ok (patched k v boot)
patch_taken_in pages k v boot few place = patch_taken k v boot (placed_in_most pages k few place)
