-- The two laws of the format: what is read is spelled so in a version with room for it, and what is spelled so is read.
use Rattle.std.proofs.Common.{◌≡◌, ℕ, zero, suc, ◌<◌, ◌≤◌, true, cond, eqb, List, [], ◌∷◌, ◌++◌, length, get_or, Result, Ok, Err, refl, sym, ap, subst, ◌∙◌, append_assoc, arith, inl, inr}
use Rattle.std.specs.Prelude.{All, IsTrue, flat_map, IfOk, nat_le, ◌&&◌}
use Rattle.std.proofs.lemmas.Bool.{cases_Bool, eqb-true, leb-true, le-leb, and_parts, and_from}
use Rattle.std.proofs.lemmas.List.{append-nil, nil_from_length}
use Rattle.std.proofs.lemmas.List.Elements.{All-nil, All-cons, All-head, All-tail}
use Rattle.r3k_word.specs.Word.{bytes_of}
use Rattle.input_log.specs.Limits.{max_events, max_time}
use Rattle.input_log.specs.declared.format.Version.{Version}
use Rattle.input_log.specs.declared.format.Version.TheVariants.{One, Two}
use Rattle.input_log.specs.declared.event.Kind.{Kind}
use Rattle.input_log.specs.declared.event.Kind.TheVariants.{Byte, Framing, Wire}
use Rattle.input_log.specs.declared.fault.LogKind.TheVariants as kinds
use Rattle.input_log.specs.declared.fault.LogFault.{LogFault}
use Rattle.input_log.specs.Event.{LogEvent, LineExists, HoldsByte, IsInTime, max_line, max_byte}
use Rattle.input_log.specs.Log.{AreInOrder, IsLog}
use Rattle.input_log.specs.Spelling.{magic_of, last_time, is_byte, event_bytes, spelled_in, has_room, version_for, spelling, Fits, IsSpelled}
use Rattle.r3k_word.specs.Reading.{◌>>=◌}
use Rattle.r3k_word.proofs.Read.{AreBytes, bind_ok, passes, Takes, Takes-then}
use Rattle.input_log.specs.Reading.{ReadsOrLacks, byte_at, version_at, count_at, time_at, kind_at, event_at, events_at, log_at}
use Rattle.input_log.proofs.Fields.{ok_is, byte_takes, version_takes, version_at_again, count_takes, count_at_again, time_bytes, FitsTime, time_takes, time_at_again, kind_bytes, FitsKind, kind_takes, kind_at_again}

-- ---- events after one of the time last

pub record IsEvent (e : LogEvent) : Type 0 where
  pub line : LineExists e
  pub byte : HoldsByte e
  pub time : IsInTime e

abbrev pub AreEvents : ℕ → List LogEvent → Type 0
AreEvents last [] = Unit {0}
AreEvents last (e ∷ es) = (last ≤ e.time) × IsEvent e × AreEvents e.time es

pub at_least : (last : ℕ) (es : List LogEvent) → AreEvents last es → (k : ℕ) (d : LogEvent) → k < length es → last ≤ (get_or es k d).time
at_least last [] are k d lt = absurd (omega arith)
at_least last (e ∷ es) are zero d lt = are.0
at_least last (e ∷ es) are (suc k) d lt =
    let rest = at_least e.time es are.2 k d (omega arith) in
    omega (arith, are.0, rest)

in_order : (last : ℕ) (es : List LogEvent) → AreEvents last es → AreInOrder es
in_order last [] are i j d le lt = absurd (omega arith)
in_order last (e ∷ es) are zero zero d le lt = omega arith
in_order last (e ∷ es) are zero (suc j) d le lt = at_least e.time es are.2 j d (omega arith)
in_order last (e ∷ es) are (suc i) zero d le lt = absurd (omega arith)
in_order last (e ∷ es) are (suc i) (suc j) d le lt = in_order e.time es are.2 i j d (omega arith) (omega arith)

lines : (last : ℕ) (es : List LogEvent) → AreEvents last es → All LineExists es
lines last [] are = All-nil LineExists
lines last (e ∷ es) are = All-cons LineExists e es are.1.line (lines e.time es are.2)

hold_bytes : (last : ℕ) (es : List LogEvent) → AreEvents last es → All HoldsByte es
hold_bytes last [] are = All-nil HoldsByte
hold_bytes last (e ∷ es) are = All-cons HoldsByte e es are.1.byte (hold_bytes e.time es are.2)

in_time : (last : ℕ) (es : List LogEvent) → AreEvents last es → All IsInTime es
in_time last [] are = All-nil IsInTime
in_time last (e ∷ es) are = All-cons IsInTime e es are.1.time (in_time e.time es are.2)

pub log_from_events : (es : List LogEvent) → length es ≤ max_events → AreEvents 0 es → IsLog es
log_from_events es few are = record { in_order = in_order 0 es are; few = few; lines_exist = lines 0 es are; hold_bytes = hold_bytes 0 es are; in_time = in_time 0 es are }

events_from_parts : (last : ℕ) (es : List LogEvent) → ((d : LogEvent) → 0 < length es → last ≤ (get_or es 0 d).time) → AreInOrder es → All LineExists es → All HoldsByte es → All IsInTime es → AreEvents last es
events_from_parts last [] first order line byte time = tt
events_from_parts last (e ∷ es) first order line byte time = (
  first e (omega arith),
  record { line = All-head LineExists e es line; byte = All-head HoldsByte e es byte; time = All-head IsInTime e es time },
  events_from_parts e.time es (λ d some. order 0 1 d (omega arith) (omega arith)) (λ i j d le lt. order (suc i) (suc j) d (omega arith) (omega arith))
      (All-tail LineExists e es line) (All-tail HoldsByte e es byte) (All-tail IsInTime e es time),
)

pub events_from_log : (es : List LogEvent) → IsLog es → AreEvents 0 es
events_from_log es log = events_from_parts 0 es (λ d some. omega arith) log.in_order log.lines_exist log.hold_bytes log.in_time

-- ---- a version with room

abbrev pub HasRoom : Version → LogEvent → Type 0
HasRoom version e = IsTrue (has_room version e)

last_in_time : (version : Version) (time : ℕ) → time ≤ last_time version → time ≤ max_time
last_in_time One time le = omega (arith, le)
last_in_time Two time le = le

room : (version : Version) (e : LogEvent) → FitsKind version e.kind → e.time ≤ last_time version → HasRoom version e
room One e kind time = and_from _ _ (ap is_byte kind) (le-leb _ _ time)
room Two e kind time = refl

is_byte-kind : (kind : Kind) → is_byte kind ≡ true → FitsKind One kind
is_byte-kind Byte h = refl
is_byte-kind Framing h = absurd cc
is_byte-kind Wire h = absurd cc

room-kind : (version : Version) (e : LogEvent) → HasRoom version e → FitsKind version e.kind
room-kind One e h = is_byte-kind e.kind (and_parts _ _ h).0
room-kind Two e h = tt

room-last : (version : Version) (e : LogEvent) → IsInTime e → HasRoom version e → e.time ≤ last_time version
room-last One e time h = leb-true _ _ (and_parts _ _ h).1
room-last Two e time h = time

room-time : (version : Version) (time : ℕ) → time ≤ last_time version → FitsTime version time
room-time One time le = omega (arith, le)
room-time Two time le = omega (arith, le)

room_above : (version : Version) (e : LogEvent) → HasRoom One e → HasRoom version e
room_above One e h = h
room_above Two e h = refl

fits_two : (log : List LogEvent) → Fits Two log
fits_two log = λ k d lt. refl

-- the version of a log has room for it
pub fits : (log : List LogEvent) → Fits (version_for log) log
fits [] = All-nil (HasRoom One)
fits (e ∷ es) =
    elim (cases_Bool (has_room One e)) [
      | inl here ↦ rw here (All-cons (HasRoom (version_for es)) e es (room_above (version_for es) e here) (fits es))
      | inr none ↦ rw none (fits_two (e ∷ es))
    ]

-- no event has more bytes than in version two
pub short : (version : Version) (e : LogEvent) → length (event_bytes version e) ≤ 11
short One e = omega arith
short Two e = omega arith

-- ---- what is read is spelled so

event_parts : (version : Version) (e : LogEvent) → time_bytes version e.time ++ (kind_bytes version e.kind ++ e.line ∷ e.byte ∷ []) ≡ event_bytes version e
event_parts One e = refl
event_parts Two e = refl

record IsRead (version : Version) (last : ℕ) (bytes rest : List ℕ) (e : LogEvent) : Type 0 where
  pub text : Takes bytes (event_bytes version e) rest
  pub order : last ≤ e.time
  pub event : IsEvent e
  pub fit : HasRoom version e

event_takes : (version : Version) (last : ℕ) (bytes : List ℕ) (e : LogEvent) (rest : List ℕ) → AreBytes bytes → event_at version last bytes ≡ Ok (e, rest) → IsRead version last bytes rest e
unfolding event_at
event_takes version last bytes e rest are eq =
    let a = bind_ok (time_at version bytes) (λ time. cond (nat_le last time.0 && nat_le time.0 (last_time version)) (kind_at version time.1) (Err kinds.Time) >>= λ kind. byte_at kind.1 >>= λ line. cond (nat_le line.0 (max_line kind.0)) (byte_at line.1) (Err kinds.Line) >>= λ byte. cond (nat_le byte.0 (max_byte kind.0)) (Ok (record { time = time.0; kind = kind.0; line = line.0; byte = byte.0 }, byte.1)) (Err kinds.Value)) (e, rest) eq in
    let b = bind_ok (cond (nat_le last a.0.0 && nat_le a.0.0 (last_time version)) (kind_at version a.0.1) (Err kinds.Time)) (λ kind. byte_at kind.1 >>= λ line. cond (nat_le line.0 (max_line kind.0)) (byte_at line.1) (Err kinds.Line) >>= λ byte. cond (nat_le byte.0 (max_byte kind.0)) (Ok (record { time = a.0.0; kind = kind.0; line = line.0; byte = byte.0 }, byte.1)) (Err kinds.Value)) (e, rest) a.2 in
    let c = bind_ok (byte_at b.0.1) (λ line. cond (nat_le line.0 (max_line b.0.0)) (byte_at line.1) (Err kinds.Line) >>= λ byte. cond (nat_le byte.0 (max_byte b.0.0)) (Ok (record { time = a.0.0; kind = b.0.0; line = line.0; byte = byte.0 }, byte.1)) (Err kinds.Value)) (e, rest) b.2 in
    let d = bind_ok (cond (nat_le c.0.0 (max_line b.0.0)) (byte_at c.0.1) (Err kinds.Line)) (λ byte. cond (nat_le byte.0 (max_byte b.0.0)) (Ok (record { time = a.0.0; kind = b.0.0; line = c.0.0; byte = byte.0 }, byte.1)) (Err kinds.Value)) (e, rest) c.2 in
    let in_range = passes (nat_le last a.0.0 && nat_le a.0.0 (last_time version)) (kind_at version a.0.1) kinds.Time b.0 b.1 in
    let exists = passes (nat_le c.0.0 (max_line b.0.0)) (byte_at c.0.1) kinds.Line d.0 d.1 in
    let made : LogEvent × List ℕ = (record { time = a.0.0; kind = b.0.0; line = c.0.0; byte = d.0.0 }, d.0.1) in
    let holds = passes (nat_le d.0.0 (max_byte b.0.0)) (Ok made) kinds.Value (e, rest) d.2 in
    let both = and_parts _ _ in_range.0 in
    let within : a.0.0 ≤ last_time version = leb-true _ _ both.1 in
    let t0 = time_takes version bytes a.0.0 a.0.1 are a.1 in
    let t1 = kind_takes version a.0.1 b.0.0 b.0.1 t0.rest_bytes in_range.1 in
    let t2 = byte_takes b.0.1 c.0.0 c.0.1 t1.0.rest_bytes c.1 in
    let t3 = byte_takes c.0.1 d.0.0 d.0.1 t2.0.rest_bytes exists.1 in
    let t23 = Takes-then b.0.1 (c.0.0 ∷ []) c.0.1 (d.0.0 ∷ []) d.0.1 t2.0 t3.0 in
    let t123 = Takes-then a.0.1 (kind_bytes version b.0.0) b.0.1 (c.0.0 ∷ d.0.0 ∷ []) d.0.1 t1.0 t23 in
    let whole = Takes-then bytes (time_bytes version a.0.0) a.0.1 (kind_bytes version b.0.0 ++ c.0.0 ∷ d.0.0 ∷ []) d.0.1 t0 t123 in
    let event : IsEvent made.0 = record { line = leb-true _ _ exists.0; byte = leb-true _ _ holds.0; time = last_in_time version a.0.0 within } in
    let all : IsRead version last bytes made.1 made.0 = record {
      text = subst (λ (x : List ℕ). Takes bytes x d.0.1) (event_parts version made.0) whole;
      order = leb-true _ _ both.0;
      event = event;
      fit = room version made.0 t1.1 within;
    } in
    subst (λ (p : LogEvent × List ℕ). IsRead version last bytes p.1 p.0) (ok_is made (e, rest) holds.1) all

record AreRead (version : Version) (n last : ℕ) (bytes rest : List ℕ) (es : List LogEvent) : Type 0 where
  pub text : Takes bytes (flat_map (event_bytes version) es) rest
  pub count : length es ≡ n
  pub events : AreEvents last es
  pub fit : Fits version es

events_take : (version : Version) (n last : ℕ) (bytes : List ℕ) (es : List LogEvent) (rest : List ℕ) → AreBytes bytes → events_at version n last bytes ≡ Ok (es, rest) → AreRead version n last bytes rest es
unfolding events_at
events_take version zero last bytes es rest are eq =
    let none : AreRead version 0 last bytes bytes [] = record { text = record { parts = refl; rest_bytes = are }; count = refl; events = tt; fit = All-nil (HasRoom version) } in
    subst (λ (p : List LogEvent × List ℕ). AreRead version 0 last bytes p.1 p.0) (ok_is ([], bytes) (es, rest) eq) none
events_take version (suc n) last bytes es rest are eq =
    let a = bind_ok (event_at version last bytes) (λ first. events_at version n first.0.time first.1 >>= λ others. Ok (first.0 ∷ others.0, others.1)) (es, rest) eq in
    let b = bind_ok (events_at version n a.0.0.time a.0.1) (λ others. Ok (a.0.0 ∷ others.0, others.1)) (es, rest) a.2 in
    let first = event_takes version last bytes a.0.0 a.0.1 are a.1 in
    let others = events_take version n a.0.0.time a.0.1 b.0.0 b.0.1 first.text.rest_bytes b.1 in
    let made : List LogEvent × List ℕ = (a.0.0 ∷ b.0.0, b.0.1) in
    let all : AreRead version (suc n) last bytes b.0.1 (a.0.0 ∷ b.0.0) = record {
      text = Takes-then bytes (event_bytes version a.0.0) a.0.1 (flat_map (event_bytes version) b.0.0) b.0.1 first.text others.text;
      count = ap suc others.count;
      events = (first.order, first.event, others.events);
      fit = All-cons (HasRoom version) a.0.0 b.0.0 first.fit others.fit;
    } in
    subst (λ (p : List LogEvent × List ℕ). AreRead version (suc n) last bytes p.1 p.0) (ok_is made (es, rest) b.2) all

pub log_takes : (bytes : List ℕ) (log : List LogEvent) → AreBytes bytes → log_at bytes ≡ Ok log → IsSpelled bytes log × IsLog log
unfolding log_at
log_takes bytes log are eq =
    let v = bind_ok (version_at bytes) (λ version. count_at version.1 >>= λ count. events_at version.0 count.0 0 count.1 >>= λ events. cond (eqb (length events.1) 0) (Ok events.0) (Err kinds.Extra)) log eq in
    let version = v.0.0 in
    let a = bind_ok (count_at v.0.1) (λ count. events_at version count.0 0 count.1 >>= λ events. cond (eqb (length events.1) 0) (Ok events.0) (Err kinds.Extra)) log v.2 in
    let b = bind_ok (events_at version a.0.0 0 a.0.1) (λ events. cond (eqb (length events.1) 0) (Ok events.0) (Err kinds.Extra)) log a.2 in
    let g = passes (eqb (length b.0.1) 0) (Ok b.0.0) kinds.Extra log b.2 in
    let es = b.0.0 in
    let text = flat_map (event_bytes version) es in
    let magic = version_takes bytes version v.0.1 are v.1 in
    let count = count_takes v.0.1 a.0.0 a.0.1 magic.rest_bytes a.1 in
    let events = events_take version a.0.0 0 a.0.1 es b.0.1 count.0.rest_bytes b.1 in
    let nothing : b.0.1 ≡ [] = nil_from_length b.0.1 (eqb-true _ _ g.0) in
    let front = Takes-then bytes (magic_of version) v.0.1 (bytes_of a.0.0) a.0.1 magic count.0 in
    let all = Takes-then bytes (magic_of version ++ bytes_of a.0.0) a.0.1 text b.0.1 front events.text in
    let whole : bytes ≡ spelled_in version es = all.parts ∙ ap (λ (r : List ℕ). (magic_of version ++ bytes_of a.0.0 ++ text) ++ r) nothing ∙ append-nil (magic_of version ++ bytes_of a.0.0 ++ text)
    ∙ ap (λ (k : ℕ). magic_of version ++ bytes_of k ++ text) (sym events.count) in
    let good : IsLog es = log_from_events es (omega (arith, count.1, events.count)) events.events in
    subst (λ (l : List LogEvent). IsSpelled bytes l × IsLog l) (ok_is es log g.1) ((version, events.fit, whole), good)

-- ---- what is spelled so is read

-- the fields of an event, one after the other
event_steps : (version : Version) (last : ℕ) (bytes r1 r2 r3 r4 : List ℕ) (e : LogEvent) → time_at version bytes ≡ Ok (e.time, r1) → (nat_le last e.time && nat_le e.time (last_time version)) ≡ true
    → kind_at version r1 ≡ Ok (e.kind, r2) → byte_at r2 ≡ Ok (e.line, r3) → nat_le e.line (max_line e.kind) ≡ true → byte_at r3 ≡ Ok (e.byte, r4) → nat_le e.byte (max_byte e.kind) ≡ true
    → event_at version last bytes ≡ Ok (e, r4)
unfolding event_at
event_steps version last bytes r1 r2 r3 r4 e e1 in_range e2 e3 exists e4 holds = rw (e1, in_range, e2, e3, exists, e4, holds) refl

event_at_again : (version : Version) (last : ℕ) (e : LogEvent) (rest : List ℕ) → last ≤ e.time → IsEvent e → HasRoom version e → event_at version last (event_bytes version e ++ rest) ≡ Ok (e, rest)
event_at_again version last e rest after good fit =
    let within = room-last version e good.time fit in
    let line : List ℕ = e.line ∷ e.byte ∷ rest in
    let kind : List ℕ = kind_bytes version e.kind ++ line in
    let apart : event_bytes version e ++ rest ≡ time_bytes version e.time ++ kind =
    ap (λ (x : List ℕ). x ++ rest) (sym (event_parts version e)) ∙ append_assoc (time_bytes version e.time) (kind_bytes version e.kind ++ e.line ∷ e.byte ∷ []) rest
    ∙ ap (λ (x : List ℕ). time_bytes version e.time ++ x) (append_assoc (kind_bytes version e.kind) (e.line ∷ e.byte ∷ []) rest) in
    ap (event_at version last) apart
    ∙ event_steps version last (time_bytes version e.time ++ kind) kind line (e.byte ∷ rest) rest e
    (time_at_again version e.time kind (room-time version e.time within))
    (and_from _ _ (le-leb _ _ after) (le-leb _ _ within))
    (kind_at_again version e.kind line (room-kind version e fit))
    refl (le-leb _ _ good.line) refl (le-leb _ _ good.byte)

events_step : (version : Version) (n last : ℕ) (bytes r1 r2 : List ℕ) (e : LogEvent) (es : List LogEvent) → event_at version last bytes ≡ Ok (e, r1) → events_at version n e.time r1 ≡ Ok (es, r2) → events_at version (suc n) last bytes ≡ Ok (e ∷ es, r2)
unfolding events_at
events_step version n last bytes r1 r2 e es e1 e2 = rw (e1, e2) refl

events_none : (version : Version) (last : ℕ) (bytes : List ℕ) → events_at version 0 last bytes ≡ Ok ([], bytes)
unfolding events_at
events_none version last bytes = refl

events_at_again : (version : Version) (last : ℕ) (es : List LogEvent) (rest : List ℕ) → AreEvents last es → Fits version es → events_at version (length es) last (flat_map (event_bytes version) es ++ rest) ≡ Ok (es, rest)
events_at_again version last [] rest are fit = events_none version last rest
events_at_again version last (e ∷ es) rest are fit =
    let text = flat_map (event_bytes version) es in
    ap (events_at version (suc (length es)) last) (append_assoc (event_bytes version e) text rest)
    ∙ events_step version (length es) last (event_bytes version e ++ (text ++ rest)) (text ++ rest) rest e es
    (event_at_again version last e (text ++ rest) are.0 are.1 (All-head (HasRoom version) e es fit))
    (events_at_again version e.time es rest are.2 (All-tail (HasRoom version) e es fit))

log_steps : (version : Version) (bytes r1 r2 r3 : List ℕ) (n : ℕ) (es : List LogEvent) → version_at bytes ≡ Ok (version, r1) → count_at r1 ≡ Ok (n, r2) → events_at version n 0 r2 ≡ Ok (es, r3) → r3 ≡ []
    → log_at bytes ≡ Ok es
unfolding log_at
log_steps version bytes r1 r2 r3 n es e1 e2 e3 nothing = rw (e1, e2, e3, nothing) refl

pub log_at_in : (version : Version) (log : List LogEvent) → IsLog log → Fits version log → log_at (spelled_in version log) ≡ Ok log
log_at_in version log good fit =
    let text = flat_map (event_bytes version) log in
    let count : List ℕ = bytes_of (length log) ++ text in
    let events : events_at version (length log) 0 text ≡ Ok (log, []) =
    ap (events_at version (length log) 0) (sym (append-nil text)) ∙ events_at_again version 0 log [] (events_from_log log good) fit in
    ap log_at (append_assoc (magic_of version) (bytes_of (length log)) text)
    ∙ log_steps version (magic_of version ++ count) count text [] (length log) log (version_at_again version count)
    (count_at_again (length log) text good.few) events refl

pub log_at_again : (log : List LogEvent) → IsLog log → log_at (spelling log) ≡ Ok log
log_at_again log good = log_at_in (version_for log) log good (fits log)

-- what is spelled so is this log
pub only : (bytes : List ℕ) (log : List LogEvent) → IsLog log → IsSpelled bytes log → log_at bytes ≡ Ok log
only bytes log good spelled = ap log_at spelled.2 ∙ log_at_in spelled.0 log good spelled.1

-- what was read is spelled so
pub is_found : (bytes : List ℕ) (r : Result (List LogEvent) LogFault) → AreBytes bytes → ReadsOrLacks (λ log. log) r (log_at bytes) → IfOk r (λ log. IsSpelled bytes log × IsLog log)
is_found bytes (Ok log) are given = log_takes bytes log are given
is_found bytes (Err fault) are given = tt

-- what was read is a log
pub is_log : (version : Version) (bytes counted rest after : List ℕ) (n : ℕ) (es : List LogEvent) → AreBytes bytes → version_at bytes ≡ Ok (version, counted) → count_at counted ≡ Ok (n, rest)
    → events_at version n 0 rest ≡ Ok (es, after) → IsLog es
is_log version bytes counted rest after n es are e1 e2 e3 =
    let magic = version_takes bytes version counted are e1 in
    let count = count_takes counted n rest magic.rest_bytes e2 in
    let events = events_take version n 0 rest es after count.0.rest_bytes e3 in
    log_from_events es (omega (arith, count.1, events.count)) events.events
