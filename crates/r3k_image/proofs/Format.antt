-- The two laws of the format: what is read is spelled so, and what is spelled so is read.
use Rattle.std.proofs.Common.{◌≡◌, ℕ, ◌^◌, ◌<◌, true, cond, eqb, List, [], ◌++◌, length, Result, Ok, Err, refl, sym, ap, subst, ◌∙◌, append_assoc, arith}
use Rattle.std.specs.Prelude.{flat_map, IfOk}
use Rattle.std.specs.Str.{bytes_eq}
use Rattle.std.proofs.lemmas.Bool.{eqb-true, eq-eqb, ltb-true, lt-ltb, and_parts, and_from}
use Rattle.std.proofs.lemmas.List.{append-nil, nil_from_length}
use Rattle.std.proofs.lemmas.List.Elements.{All-from_get_or}
use Rattle.std.proofs.lemmas.Slice.Eq.{bytes_eq-Decides}
use Rattle.r3k_word.specs.Word.{bytes_of}
use Rattle.r3k_image.specs.declared.fault.ImageKind.TheVariants as kinds
use Rattle.r3k_image.specs.declared.fault.ImageFault.{ImageFault}
use Rattle.r3k_image.specs.declared.header.TheConstants.{MAGIC}
use Rattle.r3k_image.specs.declared.header.Header.{Header}
use Rattle.r3k_image.specs.Boot.{Boot, IsBoot, IsConstant, IsClockStart}
use Rattle.r3k_image.specs.Segments.{WordsAt, IsMadeOf, boot_of}
use Rattle.r3k_image.specs.Spelling.{segment, spelling, Spells}
use Rattle.r3k_word.specs.Reading.{◌>>=◌, bytes_at, number_at}
use Rattle.r3k_word.proofs.Read.{AreBytes, bind_ok, passes, Takes, Takes-then, bytes_take, bytes_at_again, number_takes, number_at_again}
use Rattle.r3k_image.specs.Reading.{ReadsOrLacks, constant_at, is_clock_start, header_at, segments_at, image_at}
use Rattle.r3k_image.proofs.Fields.{ok_is, constant_takes, constant_at_again, segments_take, segments_at_again, few}
use Rattle.r3k_image.proofs.Kept.{is_boot}

-- the bytes of a header
abbrev header_bytes : Header → List ℕ
header_bytes h = MAGIC ++ bytes_of h.byte_time ++ bytes_of h.unit ++ h.clock_start ++ bytes_of h.segment_count

pub record IsHeader (h : Header) : Type 0 where
  pub byte_time : IsConstant h.byte_time
  pub unit : IsConstant h.unit
  pub clock_start : IsClockStart h.clock_start
  pub segment_count : h.segment_count < 2 ^ 32

clock_is_good : (registers : List ℕ) → length registers ≡ 12 → AreBytes registers → is_clock_start registers ≡ true → IsClockStart registers
clock_is_good registers len are h =
    let both = and_parts _ _ h in
    record { count = len; bytes = All-from_get_or (λ b. b < 256) registers 0 (λ i _. are i); register_a = ltb-true _ _ both.0; register_b = eqb-true _ _ both.1 }

good_clock_passes : (registers : List ℕ) → IsClockStart registers → is_clock_start registers ≡ true
good_clock_passes registers h = and_from _ _ (lt-ltb _ _ h.register_a) (eq-eqb _ _ h.register_b)

header_takes : (bytes : List ℕ) (h : Header) (rest : List ℕ) → AreBytes bytes → header_at bytes ≡ Ok (h, rest) → Takes bytes (header_bytes h) rest × IsHeader h
unfolding header_at
header_takes bytes h rest are e =
    let a = bind_ok (bytes_at kinds.Short 8 bytes) (λ magic. cond (bytes_eq magic.0 MAGIC) (constant_at kinds.ByteTime magic.1) (Err kinds.Magic) >>= λ time. constant_at kinds.Unit time.1 >>= λ second. bytes_at kinds.Short 12 second.1 >>= λ clock. cond (is_clock_start clock.0) (number_at kinds.Short clock.1) (Err kinds.ClockStart) >>= λ count. Ok (record { byte_time = time.0; unit = second.0; clock_start = clock.0; segment_count = count.0 }, count.1)) (h, rest) e in
    let b = bind_ok (cond (bytes_eq a.0.0 MAGIC) (constant_at kinds.ByteTime a.0.1) (Err kinds.Magic)) (λ time. constant_at kinds.Unit time.1 >>= λ second. bytes_at kinds.Short 12 second.1 >>= λ clock. cond (is_clock_start clock.0) (number_at kinds.Short clock.1) (Err kinds.ClockStart) >>= λ count. Ok (record { byte_time = time.0; unit = second.0; clock_start = clock.0; segment_count = count.0 }, count.1)) (h, rest) a.2 in
    let d = bind_ok (constant_at kinds.Unit b.0.1) (λ second. bytes_at kinds.Short 12 second.1 >>= λ clock. cond (is_clock_start clock.0) (number_at kinds.Short clock.1) (Err kinds.ClockStart) >>= λ count. Ok (record { byte_time = b.0.0; unit = second.0; clock_start = clock.0; segment_count = count.0 }, count.1)) (h, rest) b.2 in
    let f = bind_ok (bytes_at kinds.Short 12 d.0.1) (λ clock. cond (is_clock_start clock.0) (number_at kinds.Short clock.1) (Err kinds.ClockStart) >>= λ count. Ok (record { byte_time = b.0.0; unit = d.0.0; clock_start = clock.0; segment_count = count.0 }, count.1)) (h, rest) d.2 in
    let g = bind_ok (cond (is_clock_start f.0.0) (number_at kinds.Short f.0.1) (Err kinds.ClockStart)) (λ count. Ok (record { byte_time = b.0.0; unit = d.0.0; clock_start = f.0.0; segment_count = count.0 }, count.1)) (h, rest) f.2 in
    let m = passes (bytes_eq a.0.0 MAGIC) (constant_at kinds.ByteTime a.0.1) kinds.Magic b.0 b.1 in
    let k = passes (is_clock_start f.0.0) (number_at kinds.Short f.0.1) kinds.ClockStart g.0 g.1 in
    let magic : a.0.0 ≡ MAGIC = (bytes_eq-Decides a.0.0 MAGIC).0 m.0 in
    let t0 = bytes_take kinds.Short 8 bytes a.0.0 a.0.1 are a.1 in
    let t0m : Takes bytes MAGIC a.0.1 = subst (λ (x : List ℕ). Takes bytes x a.0.1) magic t0.0 in
    let t1 = constant_takes kinds.ByteTime a.0.1 b.0.0 b.0.1 t0.0.rest_bytes m.1 in
    let t2 = constant_takes kinds.Unit b.0.1 d.0.0 d.0.1 t1.0.rest_bytes d.1 in
    let t3 = bytes_take kinds.Short 12 d.0.1 f.0.0 f.0.1 t2.0.rest_bytes f.1 in
    let t4 = number_takes kinds.Short f.0.1 g.0.0 g.0.1 t3.0.rest_bytes k.1 in
    let t01 = Takes-then bytes MAGIC a.0.1 (bytes_of b.0.0) b.0.1 t0m t1.0 in
    let t02 = Takes-then bytes (MAGIC ++ bytes_of b.0.0) b.0.1 (bytes_of d.0.0) d.0.1 t01 t2.0 in
    let t03 = Takes-then bytes (MAGIC ++ bytes_of b.0.0 ++ bytes_of d.0.0) d.0.1 f.0.0 f.0.1 t02 t3.0 in
    let t04 = Takes-then bytes (MAGIC ++ bytes_of b.0.0 ++ bytes_of d.0.0 ++ f.0.0) f.0.1 (bytes_of g.0.0) g.0.1 t03 t4.0 in
    let made : Header × List ℕ = (record { byte_time = b.0.0; unit = d.0.0; clock_start = f.0.0; segment_count = g.0.0 }, g.0.1) in
    let good : IsHeader made.0 = record { byte_time = t1.1; unit = t2.1; clock_start = clock_is_good f.0.0 t3.1 t3.2 k.0; segment_count = t4.1 } in
    subst (λ (p : Header × List ℕ). Takes bytes (header_bytes p.0) p.1 × IsHeader p.0) (ok_is made (h, rest) g.2) (t04, good)

header_steps : (bytes r1 r2 r3 r4 r5 : List ℕ) (h : Header) → bytes_at kinds.Short 8 bytes ≡ Ok (MAGIC, r1) → constant_at kinds.ByteTime r1 ≡ Ok (h.byte_time, r2) → constant_at kinds.Unit r2 ≡ Ok (h.unit, r3)
    → bytes_at kinds.Short 12 r3 ≡ Ok (h.clock_start, r4) → is_clock_start h.clock_start ≡ true → number_at kinds.Short r4 ≡ Ok (h.segment_count, r5) → header_at bytes ≡ Ok (h, r5)
unfolding header_at
header_steps bytes r1 r2 r3 r4 r5 h e1 e2 e3 e4 good e5 = rw (e1, e2, e3, e4, good, e5) refl

regroup5 : (a b c d e f : List ℕ) → a ++ b ++ c ++ d ++ e ++ f ≡ a ++ (b ++ (c ++ (d ++ (e ++ f))))
regroup5 a b c d e f = simp append_assoc

header_at_again : (h : Header) (rest : List ℕ) → IsHeader h → header_at (header_bytes h ++ rest) ≡ Ok (h, rest)
header_at_again h rest good =
    let r4 = bytes_of h.segment_count ++ rest in
    let r3 = h.clock_start ++ r4 in
    let r2 = bytes_of h.unit ++ r3 in
    let r1 = bytes_of h.byte_time ++ r2 in
    ap header_at (regroup5 MAGIC (bytes_of h.byte_time) (bytes_of h.unit) h.clock_start (bytes_of h.segment_count) rest)
    ∙ header_steps (MAGIC ++ r1) r1 r2 r3 r4 rest h
    (bytes_at_again kinds.Short 8 MAGIC r1 refl)
    (constant_at_again kinds.ByteTime h.byte_time r2 good.byte_time)
    (constant_at_again kinds.Unit h.unit r3 good.unit)
    (bytes_at_again kinds.Short 12 h.clock_start r4 good.clock_start.count)
    (good_clock_passes h.clock_start good.clock_start)
    (number_at_again kinds.Short h.segment_count rest good.segment_count)

pub image_takes : (bytes : List ℕ) (boot : Boot) → AreBytes bytes → image_at bytes ≡ Ok boot → Spells bytes boot
unfolding image_at
image_takes bytes boot are e =
    let a = bind_ok (header_at bytes) (λ header. segments_at header.0.segment_count 0 header.1 >>= λ segments. cond (eqb (length segments.1) 0) (Ok (boot_of segments.0 header.0.byte_time header.0.unit header.0.clock_start)) (Err kinds.Extra)) boot e in
    let b = bind_ok (segments_at a.0.0.segment_count 0 a.0.1) (λ segments. cond (eqb (length segments.1) 0) (Ok (boot_of segments.0 a.0.0.byte_time a.0.0.unit a.0.0.clock_start)) (Err kinds.Extra)) boot a.2 in
    let h = a.0.0 in
    let ss = b.0.0 in
    let made : Boot = boot_of ss h.byte_time h.unit h.clock_start in
    let g = passes (eqb (length b.0.1) 0) (Ok made) kinds.Extra boot b.2 in
    let first = header_takes bytes h a.0.1 are a.1 in
    let second = segments_take h.segment_count 0 a.0.1 ss b.0.1 first.0.rest_bytes b.1 in
    let nothing : b.0.1 ≡ [] = nil_from_length b.0.1 (eqb-true _ _ g.0) in
    let both = Takes-then bytes (header_bytes h) a.0.1 (flat_map segment ss) b.0.1 first.0 second.0 in
    let whole : bytes ≡ spelling made ss = both.parts ∙ ap (λ (r : List ℕ). (header_bytes h ++ flat_map segment ss) ++ r) nothing ∙ append-nil (header_bytes h ++ flat_map segment ss)
    ∙ ap (λ (k : ℕ). MAGIC ++ bytes_of h.byte_time ++ bytes_of h.unit ++ h.clock_start ++ bytes_of k ++ flat_map segment ss) (sym second.1) in
    let parts : IsMadeOf ss made = record { stand = second.2; words = refl; byte_time = first.1.byte_time; unit = first.1.unit; clock_start = first.1.clock_start } in
    let spells : Spells bytes made = record { segments = ss; made = parts; spelled = whole } in
    subst (Spells bytes) (ok_is made boot g.1) spells

image_steps : (bytes r1 r2 : List ℕ) (h : Header) (ss : List WordsAt) → header_at bytes ≡ Ok (h, r1) → segments_at h.segment_count 0 r1 ≡ Ok (ss, r2) → r2 ≡ [] → image_at bytes ≡ Ok (boot_of ss h.byte_time h.unit h.clock_start)
unfolding image_at
image_steps bytes r1 r2 h ss e1 e2 nothing = rw (e1, e2, nothing) refl

pub image_at_again : (bytes : List ℕ) (boot : Boot) → Spells bytes boot → image_at bytes ≡ Ok boot
image_at_again bytes boot spells =
    let ss = spells.segments in
    let made = spells.made in
    let h : Header = record { byte_time = boot.byte_time; unit = boot.unit; clock_start = boot.clock_start; segment_count = length ss } in
    let count : length ss < 2 ^ 32 = omega (arith, few 0 ss (omega arith) made.stand) in
    let good : IsHeader h = record { byte_time = made.byte_time; unit = made.unit; clock_start = made.clock_start; segment_count = count } in
    let same : boot_of ss boot.byte_time boot.unit boot.clock_start ≡ boot = λ i. record { words = sym made.words i; byte_time = boot.byte_time; unit = boot.unit; clock_start = boot.clock_start } in
    let rest : segments_at (length ss) 0 (flat_map segment ss) ≡ Ok (ss, []) = ap (segments_at (length ss) 0) (sym (append-nil (flat_map segment ss))) ∙ segments_at_again 0 ss [] made.stand in
    ap image_at spells.spelled
    ∙ image_steps (spelling boot ss) (flat_map segment ss) [] h ss (header_at_again h (flat_map segment ss) good) rest refl
    ∙ ap (λ (b : Boot). Ok b) same

-- what was read is spelled so
pub is_found : (bytes : List ℕ) (r : Result Boot ImageFault) → AreBytes bytes → ReadsOrLacks (λ image. image) r (image_at bytes) → IfOk r (λ image. Spells bytes image × IsBoot image)
is_found bytes (Ok boot) are given = let s = image_takes bytes boot are given in (s, is_boot s.segments boot s.made)
is_found bytes (Err fault) are given = tt

-- the parts of what was read are good
pub is_made : (bytes rest after : List ℕ) (h : Header) (ss : List WordsAt) → AreBytes bytes → header_at bytes ≡ Ok (h, rest) → segments_at h.segment_count 0 rest ≡ Ok (ss, after) → IsMadeOf ss (boot_of ss h.byte_time h.unit h.clock_start)
is_made bytes rest after h ss are e1 e2 =
    let first = header_takes bytes h rest are e1 in
    let second = segments_take h.segment_count 0 rest ss after first.0.rest_bytes e2 in
    record { stand = second.2; words = refl; byte_time = first.1.byte_time; unit = first.1.unit; clock_start = first.1.clock_start }
