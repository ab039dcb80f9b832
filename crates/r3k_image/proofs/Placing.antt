-- Where words may stand, and what good segments keep.
use Rattle.std.proofs.Common.{◌≡◌, ℕ, ◌%◌, ◌<◌, ◌≤◌, cond, ◌⊎◌, inl, inr, List, [], ◌∷◌, length, Option, Some, None, unwrap_or, refl, sym, ap, subst, ◌∙◌, arith}
use Rattle.std.specs.Prelude.{IsTrue, nat_le}
use Rattle.std.proofs.lemmas.Bool.{ltb-true, leb-true, leb-false, eqb-true, and_parts, or_cases, cases_Bool}
use Rattle.std.proofs.lemmas.Option.{same_Some}
use Rattle.r3k_word.specs.declared.layout.TheConstants.{ROM_START}
use Rattle.r3k_image.specs.Boot.{ram_end, rom_end}
use Rattle.r3k_image.specs.Segments.{WordsAt, may_stand, end_of, AreSegments, last_at}
use Rattle.r3k_image.proofs.Words.{AreWords}

-- words that may stand at an address
pub record Stand (start address count : ℕ) : Type 0 where
  pub aligned : address % 4 ≡ 0
  pub some : 0 < count
  pub after : start ≤ address
  pub inside : (end_of address count ≤ ram_end) ⊎ ((ROM_START ≤ address) × (end_of address count ≤ rom_end))

pub stand : (start address count : ℕ) → IsTrue (may_stand start address count) → Stand start address count
stand start address count h =
    let a = and_parts _ _ h in
    let b = and_parts _ _ a.0 in
    let c = and_parts _ _ b.0 in
    record {
      aligned = eqb-true _ _ c.0;
      some = ltb-true _ _ c.1;
      after = leb-true _ _ b.1;
      inside = elim (or_cases _ _ a.1) [
        | inl ram ↦ inl (leb-true _ _ ram)
        | inr rom ↦ let r = and_parts _ _ rom in inr (leb-true _ _ r.0, leb-true _ _ r.1)
      ];
    }

-- words end where ROM ends or before
pub Stand-end : (start address count : ℕ) → Stand start address count → end_of address count ≤ rom_end
Stand-end start address count h = elim h.inside [ inl ram ↦ omega (arith, ram) | inr rom ↦ rom.1 ]

-- a segment that is good wherever it stands
pub record IsGood (s : WordsAt) : Type 0 where
  pub place : Stand 0 s.address (length s.words)
  pub words : AreWords s.words

good : (start : ℕ) (s : WordsAt) → Stand start s.address (length s.words) → AreWords s.words → IsGood s
good start s h words = record { place = record { aligned = h.aligned; some = h.some; after = omega arith; inside = h.inside }; words = words }

-- the last segment at or below an address begins there, is good, and is none of those before start
pub record IsLast (start address : ℕ) (s : WordsAt) : Type 0 where
  pub below : s.address ≤ address
  pub after : start ≤ s.address
  pub good : IsGood s

-- the first of some segments is not above the address if any is, and then it is the last one or the others have it
pub last_cases : (address : ℕ) (s : WordsAt) (ss : List WordsAt) →
    ((address < s.address) × (last_at address (s ∷ ss) ≡ None)) ⊎ ((s.address ≤ address) × (last_at address (s ∷ ss) ≡ Some (unwrap_or (last_at address ss) s)))
last_cases address s ss =
    elim (cases_Bool (nat_le s.address address)) [
      | inl holds ↦ inr (leb-true _ _ holds, ap (λ b. cond b (Some (unwrap_or (last_at address ss) s)) None) holds)
      | inr fails ↦ inl (leb-false _ _ fails, ap (λ b. cond b (Some (unwrap_or (last_at address ss) s)) None) fails)
    ]

pub cases_option : {A : Type 0} (o : Option A) → (o ≡ None) ⊎ ((x : A) × (o ≡ Some x))
cases_option None = inl refl
cases_option (Some x) = inr (x, refl)

pub is_last : (start address : ℕ) (ss : List WordsAt) (t : WordsAt) → AreSegments start ss → last_at address ss ≡ Some t → IsLast start address t
is_last start address [] t h e = absurd cc
is_last start address (s ∷ ss) t h e =
    let p = stand start s.address (length s.words) h.0 in
    elim (last_cases address s ss) [
      | inl above ↦ absurd (let f : ◌≡◌ {A = Option WordsAt} None (Some t) = sym above.1 ∙ e in cc)
      | inr here ↦ elim (cases_option (last_at address ss)) [
        | inl none ↦
            let same : s ≡ t = same_Some s t (sym (here.1 ∙ ap (λ o. Some (unwrap_or o s)) none) ∙ e) in
            let l : IsLast start address s = record { below = here.0; after = p.after; good = good start s p h.1 } in
            subst (λ x. IsLast start address x) same l
        | inr some ↦
            let same : some.0 ≡ t = same_Some some.0 t (sym (here.1 ∙ ap (λ o. Some (unwrap_or o s)) some.1) ∙ e) in
            let l = is_last (end_of s.address (length s.words)) address ss some.0 h.2 some.1 in
            let m : IsLast start address some.0 = record { below = l.below; after = omega (arith, l.after, p.after); good = l.good } in
            subst (λ x. IsLast start address x) same m
      ]
    ]
