-- A field that is read is the field that was written, and what was written is read again.
use Rattle.std.proofs.Common.{◌≡◌, ℕ, suc, ◌+◌, ◌*◌, ◌/◌, ◌%◌, ◌^◌, ◌<◌, ◌≤◌, ◌⊎◌, inl, inr, Bool, true, false, cond, eqb, List, [], ◌∷◌, ◌++◌, length, Result, Ok, Err, refl, sym, ap, subst, ◌∙◌, arith}
use Rattle.std.specs.Prelude.{nat_le}
use Rattle.std.specs.Str.{bytes_eq}
use Rattle.std.proofs.lemmas.Bool.{eqb-true, le-leb, leb-true}
use Rattle.std.proofs.lemmas.Slice.Eq.{bytes_eq-Decides}
use Rattle.r3k_word.specs.Word.{bytes_of}
use Rattle.input_log.specs.declared.fault.LogKind.{LogKind}
use Rattle.input_log.specs.declared.fault.LogKind.TheVariants as kinds
use Rattle.input_log.specs.declared.format.TheConstants.{MAGIC_ONE, MAGIC_TWO}
use Rattle.input_log.specs.declared.format.Version.{Version}
use Rattle.input_log.specs.declared.format.Version.TheVariants.{One, Two}
use Rattle.input_log.specs.declared.event.Kind.{Kind}
use Rattle.input_log.specs.declared.event.Kind.TheVariants.{Byte, Framing, Wire}
use Rattle.input_log.specs.Limits.{max_events}
use Rattle.input_log.specs.Spelling.{magic_of, kind_number}
use Rattle.r3k_word.proofs.Read.{AreBytes, bind_ok, passes, Takes, Takes-then, bytes_take, bytes_at_again, number_takes, number_at_again}
use Rattle.r3k_word.specs.Reading.{◌>>=◌, bytes_at, number_at}
use Rattle.input_log.specs.Reading.{byte_at, version_at, count_at, time_at, kind_of, kind_at}

-- the branch of a choice that was taken
chosen : {A : Type 0} (b : Bool) (r s : Result A LogKind) (y : A) → cond b r s ≡ Ok y → ((b ≡ true) × (r ≡ Ok y)) ⊎ ((b ≡ false) × (s ≡ Ok y))
chosen true r s y e = inl (refl, e)
chosen false r s y e = inr (refl, e)

abbrev done : {A : Type 0} → A → Result A LogKind
done x = Ok x

pub ok_is : {A : Type 0} (x y : A) → done x ≡ done y → x ≡ y
ok_is x y e = cc

-- ---- one byte

pub byte_takes : (bytes : List ℕ) (byte : ℕ) (rest : List ℕ) → AreBytes bytes → byte_at bytes ≡ Ok (byte, rest) → Takes bytes (byte ∷ []) rest × (byte < 256)
byte_takes [] byte rest are e = absurd cc
byte_takes (b ∷ bytes) byte rest are e =
    let after : AreBytes bytes = λ i. are (suc i) in
    let here : b < 256 = are 0 in
    let whole : Takes (b ∷ bytes) (b ∷ []) bytes = record { parts = refl; rest_bytes = after } in
    subst (λ (p : ℕ × List ℕ). Takes (b ∷ bytes) (p.0 ∷ []) p.1 × (p.0 < 256)) (ok_is (b, bytes) (byte, rest) e) (whole, here)

-- ---- the version and the number of events

pub version_takes : (bytes : List ℕ) (version : Version) (rest : List ℕ) → AreBytes bytes → version_at bytes ≡ Ok (version, rest) → Takes bytes (magic_of version) rest
unfolding version_at
version_takes bytes version rest are e =
    let a = bind_ok (bytes_at kinds.Short 8 bytes) (λ magic. cond (bytes_eq magic.0 MAGIC_ONE) (Ok (One, magic.1)) (cond (bytes_eq magic.0 MAGIC_TWO) (Ok (Two, magic.1)) (Err kinds.Magic))) (version, rest) e in
    let front = (bytes_take kinds.Short 8 bytes a.0.0 a.0.1 are a.1).0 in
    elim (chosen (bytes_eq a.0.0 MAGIC_ONE) (Ok (One, a.0.1)) (cond (bytes_eq a.0.0 MAGIC_TWO) (Ok (Two, a.0.1)) (Err kinds.Magic)) (version, rest) a.2) [
      | inl one ↦
          let magic : a.0.0 ≡ MAGIC_ONE = (bytes_eq-Decides a.0.0 MAGIC_ONE).0 one.0 in
          let made : Version × List ℕ = (One, a.0.1) in
          subst (λ (p : Version × List ℕ). Takes bytes (magic_of p.0) p.1) (ok_is made (version, rest) one.1) (subst (λ (x : List ℕ). Takes bytes x a.0.1) magic front)
      | inr other ↦
          let two = passes (bytes_eq a.0.0 MAGIC_TWO) (Ok (Two, a.0.1)) kinds.Magic (version, rest) other.1 in
          let magic : a.0.0 ≡ MAGIC_TWO = (bytes_eq-Decides a.0.0 MAGIC_TWO).0 two.0 in
          let made : Version × List ℕ = (Two, a.0.1) in
          subst (λ (p : Version × List ℕ). Takes bytes (magic_of p.0) p.1) (ok_is made (version, rest) two.1) (subst (λ (x : List ℕ). Takes bytes x a.0.1) magic front)
    ]

version_step : (version : Version) (bytes rest : List ℕ) → bytes_at kinds.Short 8 bytes ≡ Ok (magic_of version, rest) → version_at bytes ≡ Ok (version, rest)
unfolding version_at
version_step One bytes rest e = rw e refl
version_step Two bytes rest e = rw e refl

magic_length : (version : Version) → length (magic_of version) ≡ 8
magic_length One = refl
magic_length Two = refl

pub version_at_again : (version : Version) (rest : List ℕ) → version_at (magic_of version ++ rest) ≡ Ok (version, rest)
version_at_again version rest =
    version_step version (magic_of version ++ rest) rest (bytes_at_again kinds.Short 8 (magic_of version) rest (magic_length version))

pub count_takes : (bytes : List ℕ) (n : ℕ) (rest : List ℕ) → AreBytes bytes → count_at bytes ≡ Ok (n, rest) → Takes bytes (bytes_of n) rest × (n ≤ max_events)
unfolding count_at
count_takes bytes n rest are e =
    let a = bind_ok (number_at kinds.Short bytes) (λ count. cond (nat_le count.0 max_events) (Ok count) (Err kinds.Count)) (n, rest) e in
    let few = passes (nat_le a.0.0 max_events) (Ok a.0) kinds.Count (n, rest) a.2 in
    let text = (number_takes kinds.Short bytes a.0.0 a.0.1 are a.1).0 in
    subst (λ (p : ℕ × List ℕ). Takes bytes (bytes_of p.0) p.1 × (p.0 ≤ max_events)) (ok_is a.0 (n, rest) few.1) (text, leb-true _ _ few.0)

count_step : (bytes rest : List ℕ) (n : ℕ) → number_at kinds.Short bytes ≡ Ok (n, rest) → nat_le n max_events ≡ true → count_at bytes ≡ Ok (n, rest)
unfolding count_at
count_step bytes rest n e few = rw (e, few) refl

pub count_at_again : (n : ℕ) (rest : List ℕ) → n ≤ max_events → count_at (bytes_of n ++ rest) ≡ Ok (n, rest)
count_at_again n rest few = count_step (bytes_of n ++ rest) rest n (number_at_again kinds.Short n rest (omega (arith, few))) (le-leb _ _ few)

-- ---- a time and a kind

abbrev pub time_bytes : Version → ℕ → List ℕ
time_bytes One time = bytes_of time
time_bytes Two time = bytes_of (time % 2 ^ 32) ++ bytes_of (time / 2 ^ 32)

abbrev pub kind_bytes : Version → Kind → List ℕ
kind_bytes One kind = []
kind_bytes Two kind = kind_number kind ∷ []

-- the times and the kinds that a version spells
abbrev pub FitsTime : Version → ℕ → Type 0
FitsTime One time = time < 2 ^ 32
FitsTime Two time = time < 2 ^ 64

abbrev pub FitsKind : Version → Kind → Type 0
FitsKind One kind = kind ≡ Byte
FitsKind Two kind = Unit {0}

pub time_takes : (version : Version) (bytes : List ℕ) (time : ℕ) (rest : List ℕ) → AreBytes bytes → time_at version bytes ≡ Ok (time, rest) → Takes bytes (time_bytes version time) rest
unfolding time_at
time_takes One bytes time rest are e = (number_takes kinds.Short bytes time rest are e).0
time_takes Two bytes time rest are e =
    let a = bind_ok (number_at kinds.Short bytes) (λ low. number_at kinds.Short low.1 >>= λ high. Ok (low.0 + high.0 * 2 ^ 32, high.1)) (time, rest) e in
    let b = bind_ok (number_at kinds.Short a.0.1) (λ high. Ok (a.0.0 + high.0 * 2 ^ 32, high.1)) (time, rest) a.2 in
    let low = number_takes kinds.Short bytes a.0.0 a.0.1 are a.1 in
    let high = number_takes kinds.Short a.0.1 b.0.0 b.0.1 low.0.rest_bytes b.1 in
    let made : ℕ × List ℕ = (a.0.0 + b.0.0 * 2 ^ 32, b.0.1) in
    let low_is : a.0.0 ≡ (a.0.0 + b.0.0 * 2 ^ 32) % 2 ^ 32 = omega (arith, low.1) in
    let high_is : b.0.0 ≡ (a.0.0 + b.0.0 * 2 ^ 32) / 2 ^ 32 = omega (arith, low.1) in
    let both = Takes-then bytes (bytes_of a.0.0) a.0.1 (bytes_of b.0.0) b.0.1 low.0 high.0 in
    let first : Takes bytes (bytes_of ((a.0.0 + b.0.0 * 2 ^ 32) % 2 ^ 32) ++ bytes_of b.0.0) b.0.1 =
    subst (λ (n : ℕ). Takes bytes (bytes_of n ++ bytes_of b.0.0) b.0.1) low_is both in
    let whole : Takes bytes (time_bytes Two made.0) made.1 =
    subst (λ (n : ℕ). Takes bytes (bytes_of ((a.0.0 + b.0.0 * 2 ^ 32) % 2 ^ 32) ++ bytes_of n) b.0.1) high_is first in
    subst (λ (p : ℕ × List ℕ). Takes bytes (time_bytes Two p.0) p.1) (ok_is made (time, rest) b.2) whole

time_one : (bytes rest : List ℕ) (time : ℕ) → number_at kinds.Short bytes ≡ Ok (time, rest) → time_at One bytes ≡ Ok (time, rest)
unfolding time_at
time_one bytes rest time e = e

time_two : (bytes middle rest : List ℕ) (low high : ℕ) → number_at kinds.Short bytes ≡ Ok (low, middle) → number_at kinds.Short middle ≡ Ok (high, rest) → time_at Two bytes ≡ Ok (low + high * 2 ^ 32, rest)
unfolding time_at
time_two bytes middle rest low high e1 e2 = rw (e1, e2) refl

pub time_at_again : (version : Version) (time : ℕ) (rest : List ℕ) → FitsTime version time → time_at version (time_bytes version time ++ rest) ≡ Ok (time, rest)
time_at_again One time rest fits = time_one (bytes_of time ++ rest) rest time (number_at_again kinds.Short time rest fits)
time_at_again Two time rest fits =
    let low = time % 2 ^ 32 in
    let high = time / 2 ^ 32 in
    let same : low + high * 2 ^ 32 ≡ time = omega arith in
    time_two (bytes_of low ++ (bytes_of high ++ rest)) (bytes_of high ++ rest) rest low high (number_at_again kinds.Short low (bytes_of high ++ rest) (omega arith))
    (number_at_again kinds.Short high rest (omega (arith, fits)))
    ∙ ap (λ (n : ℕ). Ok (n, rest)) same

kind_numbered : (number : ℕ) (kind : Kind) → kind_of number ≡ Ok kind → number ≡ kind_number kind
kind_numbered number kind e =
    elim (chosen (eqb number 0) (Ok Byte) (cond (eqb number 1) (Ok Framing) (cond (eqb number 2) (Ok Wire) (Err kinds.Kind))) kind e) [
      | inl zeroth ↦ subst (λ k. number ≡ kind_number k) (ok_is Byte kind zeroth.1) (eqb-true _ _ zeroth.0)
      | inr other ↦ elim (chosen (eqb number 1) (Ok Framing) (cond (eqb number 2) (Ok Wire) (Err kinds.Kind)) kind other.1) [
        | inl first ↦ subst (λ k. number ≡ kind_number k) (ok_is Framing kind first.1) (eqb-true _ _ first.0)
        | inr rest ↦
            let second = passes (eqb number 2) (Ok Wire) kinds.Kind kind rest.1 in
            subst (λ k. number ≡ kind_number k) (ok_is Wire kind second.1) (eqb-true _ _ second.0)
      ]
    ]

pub kind_takes : (version : Version) (bytes : List ℕ) (kind : Kind) (rest : List ℕ) → AreBytes bytes → kind_at version bytes ≡ Ok (kind, rest)
    → Takes bytes (kind_bytes version kind) rest × FitsKind version kind
unfolding kind_at
kind_takes One bytes kind rest are e =
    let made : Kind × List ℕ = (Byte, bytes) in
    subst (λ (p : Kind × List ℕ). Takes bytes [] p.1 × (p.0 ≡ Byte)) (ok_is made (kind, rest) e) (record { parts = refl; rest_bytes = are }, refl)
kind_takes Two bytes kind rest are e =
    let a = bind_ok (byte_at bytes) (λ number. kind_of number.0 >>= λ k. Ok (k, number.1)) (kind, rest) e in
    let b = bind_ok (kind_of a.0.0) (λ k. Ok (k, a.0.1)) (kind, rest) a.2 in
    let text = (byte_takes bytes a.0.0 a.0.1 are a.1).0 in
    let made : Kind × List ℕ = (b.0, a.0.1) in
    let whole : Takes bytes (kind_number b.0 ∷ []) a.0.1 = subst (λ (n : ℕ). Takes bytes (n ∷ []) a.0.1) (kind_numbered a.0.0 b.0 b.1) text in
    subst (λ (p : Kind × List ℕ). Takes bytes (kind_number p.0 ∷ []) p.1 × Unit {0}) (ok_is made (kind, rest) b.2) (whole, tt)

pub kind_at_again : (version : Version) (kind : Kind) (rest : List ℕ) → FitsKind version kind → kind_at version (kind_bytes version kind ++ rest) ≡ Ok (kind, rest)
unfolding kind_at
kind_at_again One kind rest fits = ap (λ (k : Kind). Ok (k, rest)) (sym fits)
kind_at_again Two Byte rest fits = refl
kind_at_again Two Framing rest fits = refl
kind_at_again Two Wire rest fits = refl
