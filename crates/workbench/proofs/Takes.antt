-- What one byte of a script does, and a piece.
use Rattle.std.proofs.Common.{◌≡◌, ◌≢◌, ℕ, ◌<◌, ◌≤◌, Bool, true, false, List, [], ◌∷◌, ◌++◌, ◌+◌, length, take, drop, get_or, append_assoc, Option, Some, Result, Ok, Err, MatchResult, unwrap_or, inl, refl, sym, ap, subst, ◌∙◌, cond, arith, ltb}
use Rattle.std.proofs.lemmas.Bool.{ltb-false}
use Rattle.std.proofs.lemmas.List.{append-nil, take_more, take-append-drop}
use Rattle.wb_io.specs.Calls.{Call, Each, Moment, MovesSome, TakesAll, TakesFront, bytes_moved, bytes_of}
use Rattle.wb_io.proofs.CallLemmas.{Each-append, TakesAll-append, TakesFront-after, bytes_moved-append}
use Rattle.workbench.specs.LineBuffer.{HasNoFeed}
use Rattle.wb_options.specs.declared.fault.RunFault.{RunFault}
use Rattle.wb_options.specs.declared.fault.RunFault.TheVariants.{WriteFault}
use Rattle.workbench.specs.Runs.{AnswersFirst, IsAnswered, IsPiece, NoQuit, ScriptRuns, WritesText}
use Rattle.workbench.specs.Script.{IsText, Quits, QuitsAnyway, complete_lines, lines_of}
use Rattle.wb_session.specs.Session.{Triple}
use Rattle.workbench.specs.Taking.{Answered, Ends, GoesOn, Stops, Took, Unanswered}
use Rattle.workbench.proofs.Scripts.{goes_on_after_line, ends_at_quit, goes_on_with_byte, goes_on_without_byte, goes_on_twice, ends_later, ends_anyway, stops_anyway, stops_at_line, stops_later, text_of_last_line, text_of_last_quit}
use Rattle.workbench.proofs.Feeds.{no_feed_push}

-- a byte that is no line feed is kept, or dropped after the first 258
pub kept_or_dropped : (pages : ℕ) (s : Triple) (old new : List ℕ) (byte : ℕ) → HasNoFeed old → byte ≢ 10 → new ≡ cond (ltb (length old) 258) (old ++ byte ∷ []) old → GoesOn pages s (old ++ byte ∷ []) s new []
kept_or_dropped pages s old new byte n b e = by_room (ltb (length old) 258) refl
  where
    by_room : (r : Bool) → ltb (length old) 258 ≡ r → GoesOn pages s (old ++ byte ∷ []) s new []
    by_room true r = subst (λ (z : List ℕ). GoesOn pages s (old ++ byte ∷ []) s z []) (sym (e ∙ ap (λ test. cond test (old ++ byte ∷ []) old) r)) (goes_on_with_byte pages s (old ++ byte ∷ []) (no_feed_push old byte n b))
    by_room false r =
        let long : 258 ≤ length old = ltb-false (length old) 258 r in
        subst (λ (z : List ℕ). GoesOn pages s (old ++ byte ∷ []) s z []) (sym (e ∙ ap (λ test. cond test (old ++ byte ∷ []) old) r)) (goes_on_without_byte pages s old byte n b (omega arith))

-- a line feed ends a line
pub took_line : (pages : ℕ) (s new : Triple) (old rest : List ℕ) (byte : ℕ) (calls : List Call) (quits : Bool) → HasNoFeed old → byte ≡ 10 → rest ≡ [] → Answered pages s old new calls quits → Took pages s new old rest (byte ∷ []) calls quits
took_line pages s new old rest byte calls true n b r h =
    subst (λ (cs : List Call). Each MovesSome cs × Ends pages s (old ++ byte ∷ []) (bytes_moved cs)) (sym h.1) (tt, subst (λ (z : ℕ). Ends pages s (old ++ z ∷ []) []) (sym b) (ends_at_quit pages s old n h.0))
took_line pages s new old rest byte calls false n b r h =
    (h.0, subst (λ (z : ℕ). GoesOn pages s (old ++ z ∷ []) new rest (bytes_moved calls)) (sym b) (subst (λ (z : List ℕ). GoesOn pages s (old ++ 10 ∷ []) new z (bytes_moved calls)) (sym r) (goes_on_after_line pages s new old (bytes_moved calls) n h.1)))

pub stopped_line : (pages : ℕ) (s : Triple) (old : List ℕ) (byte : ℕ) (calls : List Call) → HasNoFeed old → byte ≡ 10 → Unanswered pages s old calls → Stops pages s (old ++ byte ∷ []) calls
stopped_line pages s old byte calls n b h = subst (λ (z : ℕ). Stops pages s (old ++ z ∷ []) calls) (sym b) (stops_at_line pages s old calls n h)

-- a last line is answered, or its answer is stopped
pub ends_as : (pages : ℕ) (s new : Triple) (line : List ℕ) (calls : List Call) (quits : Bool) → HasNoFeed line → 0 < length line → Answered pages s line new calls quits → WritesText TakesAll pages s (lines_of line) calls
ends_as pages s new [] calls quits n l h = absurd (omega arith)
ends_as pages s new (byte ∷ kept) calls true n l h =
    ([], text_of_last_quit pages s byte kept n h.0, subst (λ (cs : List Call). TakesAll [] cs) (sym h.1) (record { each = tt; all = refl }))
ends_as pages s new (byte ∷ kept) calls false n l h =
    (bytes_moved calls, text_of_last_line pages s new byte kept (bytes_moved calls) n h.1, record { each = h.0; all = refl })

pub ends_stopped : (pages : ℕ) (s : Triple) (line : List ℕ) (calls : List Call) → HasNoFeed line → 0 < length line → Unanswered pages s line calls → WritesText TakesFront pages s (lines_of line) calls
ends_stopped pages s [] calls n l h = absurd (omega arith)
ends_stopped pages s (byte ∷ kept) calls n l h = (h.1, text_of_last_line pages s h.0 byte kept h.1 n h.2, h.3)

-- the bytes of a piece, one after the other
one_more : (pending piece : List ℕ) (i byte : ℕ) → i < length piece → byte ≡ get_or piece i 0 → (pending ++ take i piece) ++ byte ∷ [] ≡ pending ++ take (i + 1) piece
one_more pending piece i byte l e = append_assoc pending (take i piece) (byte ∷ []) ∙ ap (λ (z : List ℕ). pending ++ z) (ap (λ (n : ℕ). take i piece ++ n ∷ []) e ∙ sym (take_more piece i 0 l))

all_of : (pending piece : List ℕ) (i byte : ℕ) → i < length piece → byte ≡ get_or piece i 0 → ((pending ++ take i piece) ++ byte ∷ []) ++ drop (i + 1) piece ≡ pending ++ piece
all_of pending piece i byte l e =
    ap (λ (z : List ℕ). z ++ drop (i + 1) piece) (one_more pending piece i byte l e)
    ∙ (append_assoc pending (take (i + 1) piece) (drop (i + 1) piece) ∙ ap (λ (z : List ℕ). pending ++ z) (take-append-drop (i + 1) piece))

-- a part was taken, and then another
pub took_more : (pages : ℕ) (s t u : Triple) (a b p d : List ℕ) (first second : List Call) → Each MovesSome first → GoesOn pages s a t b (bytes_moved first) → Took pages t u b d p second false → Each MovesSome (first ++ second) × GoesOn pages s (a ++ p) u d (bytes_moved (first ++ second))
took_more pages s t u a b p d first second e f h =
    (Each-append MovesSome first second e h.0, subst (GoesOn pages s (a ++ p) u d) (sym (bytes_moved-append first second)) (goes_on_twice pages s t u a b p d (bytes_moved first) (bytes_moved second) f h.1))

pub took_quit : (pages : ℕ) (s t u : Triple) (a b p d : List ℕ) (first second : List Call) → Each MovesSome first → GoesOn pages s a t b (bytes_moved first) → Took pages t u b d p second true → Each MovesSome (first ++ second) × Ends pages s (a ++ p) (bytes_moved (first ++ second))
took_quit pages s t u a b p d first second e f h =
    (Each-append MovesSome first second e h.0, subst (Ends pages s (a ++ p)) (sym (bytes_moved-append first second)) (ends_later pages s t a b p (bytes_moved first) (bytes_moved second) f h.1))

pub stopped_later : (pages : ℕ) (s t : Triple) (a b p : List ℕ) (first second : List Call) → Each MovesSome first → GoesOn pages s a t b (bytes_moved first) → Stops pages t (b ++ p) second → Stops pages s (a ++ p) (first ++ second)
stopped_later pages s t a b p first second e f h = stops_later pages s t a b p (bytes_moved first) first second f (record { each = e; all = refl }) h

-- a byte of a piece, after those before it
pub byte_taken : (pages : ℕ) (s t u : Triple) (pending piece : List ℕ) (i byte : ℕ) (b d : List ℕ) (first second : List Call) (quits : Bool) → quits ≡ false → i < length piece → byte ≡ get_or piece i 0 → Each MovesSome first → GoesOn pages s (pending ++ take i piece) t b (bytes_moved first) → Took pages t u b d (byte ∷ []) second quits → Each MovesSome (first ++ second) × GoesOn pages s (pending ++ take (i + 1) piece) u d (bytes_moved (first ++ second))
byte_taken pages s t u pending piece i byte b d first second true q l is e f h = absurd (let bad : true ≡ false = q in cc)
byte_taken pages s t u pending piece i byte b d first second false q l is e f h =
    let all = took_more pages s t u (pending ++ take i piece) b (byte ∷ []) d first second e f h in
    (all.0, subst (λ (z : List ℕ). GoesOn pages s z u d (bytes_moved (first ++ second))) (one_more pending piece i byte l is) all.1)

pub byte_quits : (pages : ℕ) (s t u : Triple) (pending piece : List ℕ) (i byte : ℕ) (b d : List ℕ) (first second : List Call) (quits : Bool) → quits ≡ true → i < length piece → byte ≡ get_or piece i 0 → Each MovesSome first → GoesOn pages s (pending ++ take i piece) t b (bytes_moved first) → Took pages t u b d (byte ∷ []) second quits → Each MovesSome (first ++ second) × Ends pages s (pending ++ piece) (bytes_moved (first ++ second))
byte_quits pages s t u pending piece i byte b d first second false q l is e f h = absurd (let bad : false ≡ true = q in cc)
byte_quits pages s t u pending piece i byte b d first second true q l is e f h =
    let all = took_quit pages s t u (pending ++ take i piece) b (byte ∷ []) d first second e f h in
    (all.0, subst (λ (z : List ℕ). Ends pages s z (bytes_moved (first ++ second))) (all_of pending piece i byte l is) (ends_anyway pages s _ (drop (i + 1) piece) _ all.1))

pub byte_stops : (pages : ℕ) (s t : Triple) (pending piece : List ℕ) (i byte : ℕ) (b : List ℕ) (first second : List Call) → i < length piece → byte ≡ get_or piece i 0 → Each MovesSome first → GoesOn pages s (pending ++ take i piece) t b (bytes_moved first) → Stops pages t (b ++ byte ∷ []) second → Stops pages s (pending ++ piece) (first ++ second)
byte_stops pages s t pending piece i byte b first second l is e f h =
    subst (λ (z : List ℕ). Stops pages s z (first ++ second)) (all_of pending piece i byte l is)
    (stops_anyway pages s _ (drop (i + 1) piece) _ (stopped_later pages s t (pending ++ take i piece) b (byte ∷ []) first second e f h))

-- the bytes of one more read
bytes_moved-append_one : (calls : List Call) (call : Call) → bytes_moved (calls ++ call ∷ []) ≡ bytes_moved calls ++ bytes_of call
bytes_moved-append_one calls call = bytes_moved-append calls (call ∷ []) ∙ ap (λ (z : List ℕ). bytes_moved calls ++ z) (append-nil (bytes_of call))

bytes_moved-append_none : (calls : List Call) (call : Call) → bytes_of call ≡ [] → bytes_moved (calls ++ call ∷ []) ≡ bytes_moved calls
bytes_moved-append_none calls call none = bytes_moved-append_one calls call ∙ (ap (λ (z : List ℕ). bytes_moved calls ++ z) none ∙ append-nil (bytes_moved calls))

end_text : (pages : ℕ) (s t : Triple) (a b x y all : List ℕ) → all ≡ a → GoesOn pages s a t b x → IsText pages t (lines_of b) y → IsText pages s (lines_of all) (x ++ y)
end_text pages s t a b x y all is f h =
    subst (λ (z : List ℕ). IsText pages s (lines_of z) (x ++ y)) (append-nil a ∙ sym is)
    (f.text_goes_on [] y (subst (λ (z : List ℕ). IsText pages t (lines_of z) y) (sym (append-nil b)) h))

-- a piece of the script, after those before it
pub piece_taken : (pages : ℕ) (s t u : Triple) (reads writes calls : List Call) (read : Call) (b d : List ℕ) (quits : Bool) → quits ≡ false → Each MovesSome writes → GoesOn pages s (bytes_moved reads) t b (bytes_moved writes) → Took pages t u b d (bytes_of read) calls quits → Each MovesSome (writes ++ calls) × GoesOn pages s (bytes_moved (reads ++ read ∷ [])) u d (bytes_moved (writes ++ calls))
piece_taken pages s t u reads writes calls read b d true q e f h = absurd (let bad : true ≡ false = q in cc)
piece_taken pages s t u reads writes calls read b d false q e f h =
    let all = took_more pages s t u (bytes_moved reads) b (bytes_of read) d writes calls e f h in
    (all.0, subst (λ (z : List ℕ). GoesOn pages s z u d (bytes_moved (writes ++ calls))) (sym (bytes_moved-append_one reads read)) all.1)

pub piece_quits : (pages : ℕ) (s t u : Triple) (reads writes calls : List Call) (read : Call) (b d : List ℕ) (quits : Bool) → quits ≡ true → Each MovesSome writes → GoesOn pages s (bytes_moved reads) t b (bytes_moved writes) → Took pages t u b d (bytes_of read) calls quits → QuitsAnyway (bytes_moved (reads ++ read ∷ [])) × WritesText TakesAll pages s (lines_of (bytes_moved (reads ++ read ∷ []))) (writes ++ calls)
piece_quits pages s t u reads writes calls read b d false q e f h = absurd (let bad : false ≡ true = q in cc)
piece_quits pages s t u reads writes calls read b d true q e f h =
    let all = took_quit pages s t u (bytes_moved reads) b (bytes_of read) d writes calls e f h in
    let ends = subst (λ (z : List ℕ). Ends pages s z (bytes_moved (writes ++ calls))) (sym (bytes_moved-append_one reads read)) all.1 in (
      ends.quits,
      (bytes_moved (writes ++ calls), subst (λ (z : List ℕ). IsText pages s (lines_of z) (bytes_moved (writes ++ calls))) (append-nil (bytes_moved (reads ++ read ∷ []))) (ends.is_text []), record { each = all.0; all = refl }),
    )

pub piece_stops : (pages : ℕ) (s t : Triple) (reads writes calls : List Call) (read : Call) (b : List ℕ) → Each MovesSome writes → GoesOn pages s (bytes_moved reads) t b (bytes_moved writes) → Stops pages t (b ++ bytes_of read) calls → (bytes : List ℕ) → WritesText TakesFront pages s (lines_of (bytes_moved (reads ++ read ∷ []) ++ bytes)) (writes ++ calls)
piece_stops pages s t reads writes calls read b e f h =
    (subst (λ (z : List ℕ). Stops pages s z (writes ++ calls)) (sym (bytes_moved-append_one reads read)) (stopped_later pages s t (bytes_moved reads) b (bytes_of read) writes calls e f h)).front

-- the script ends after a part of a line, which is answered, or its answer is stopped
pub end_written : (pages : ℕ) (s t : Triple) (reads writes calls : List Call) (last : Call) (b : List ℕ) → bytes_of last ≡ [] → Each MovesSome writes → GoesOn pages s (bytes_moved reads) t b (bytes_moved writes) → WritesText TakesAll pages t (lines_of b) calls → WritesText TakesAll pages s (lines_of (bytes_moved (reads ++ last ∷ []))) (writes ++ calls)
end_written pages s t reads writes calls last b none e f h = (
  bytes_moved writes ++ h.0,
  end_text pages s t (bytes_moved reads) b (bytes_moved writes) h.0 (bytes_moved (reads ++ last ∷ [])) (bytes_moved-append_none reads last none) f h.1,
  TakesAll-append (bytes_moved writes) h.0 writes calls (record { each = e; all = refl }) h.2,
)

pub end_stopped : (pages : ℕ) (s t : Triple) (reads writes calls : List Call) (last : Call) (b : List ℕ) → bytes_of last ≡ [] → Each MovesSome writes → GoesOn pages s (bytes_moved reads) t b (bytes_moved writes) → WritesText TakesFront pages t (lines_of b) calls → WritesText TakesFront pages s (lines_of (bytes_moved (reads ++ last ∷ []))) (writes ++ calls)
end_stopped pages s t reads writes calls last b none e f h = (
  bytes_moved writes ++ h.0,
  end_text pages s t (bytes_moved reads) b (bytes_moved writes) h.0 (bytes_moved (reads ++ last ∷ [])) (bytes_moved-append_none reads last none) f h.1,
  TakesFront-after (bytes_moved writes) h.0 writes calls (record { each = e; all = refl }) h.2,
)

-- reading is cut off: the complete lines were answered
pub cut_written : (pages : ℕ) (s t : Triple) (reads writes : List Call) (last : Call) (b : List ℕ) → bytes_of last ≡ [] → Each MovesSome writes → GoesOn pages s (bytes_moved reads) t b (bytes_moved writes) → WritesText TakesAll pages s (complete_lines (bytes_moved (reads ++ last ∷ []))) writes
cut_written pages s t reads writes last b none e f = (
  bytes_moved writes,
  subst (λ (z : List ℕ). IsText pages s (complete_lines z) (bytes_moved writes)) (sym (bytes_moved-append_none reads last none)) f.complete_text,
  record { each = e; all = refl },
)

pub no_quit_at_end : (pages : ℕ) (s t : Triple) (reads writes : List Call) (last : Call) (b : List ℕ) → bytes_of last ≡ [] → GoesOn pages s (bytes_moved reads) t b (bytes_moved writes) → NoQuit (reads ++ last ∷ [])
no_quit_at_end pages s t reads writes last b none f q = f.no_quit (subst (λ (z : List ℕ). Quits (complete_lines z)) (bytes_moved-append_none reads last none) q)

-- how the script's run ends where its input does
pub end_runs : {T : Type 0} (pages most : ℕ) (s t : Triple) (r : Result T RunFault) (reads writes calls : List Call) (last : Call) (b : List ℕ) → Each IsPiece reads → last.asked ≡ 4096 → 0 < last.asked → last.moved ≡ Some [] → Each MovesSome writes → GoesOn pages s (bytes_moved reads) t b (bytes_moved writes) → MatchResult r (λ _. WritesText TakesAll pages t (lines_of b) calls) (λ fault. (fault ≡ WriteFault) × WritesText TakesFront pages t (lines_of b) calls) → ScriptRuns pages most s r (reads ++ last ∷ []) (writes ++ calls)
end_runs pages most s t (Ok done) reads writes calls last b each asked some none e f h =
    (inl (record { pieces = reads; last = last; reads_are = refl; each = each; asked = asked; so = (some, none) }, no_quit_at_end pages s t reads writes last b (ap (λ (m : Option (List ℕ)). unwrap_or m []) none) f), end_written pages s t reads writes calls last b (ap (λ (m : Option (List ℕ)). unwrap_or m []) none) e f h)
end_runs pages most s t (Err fault) reads writes calls last b each asked some none e f h =
    subst (λ (z : RunFault). ScriptRuns {T = Unit {0}} pages most s (Err z) (reads ++ last ∷ []) (writes ++ calls)) (sym h.0)
    (inl (record { pieces = reads; last = last; reads_are = refl; each = each; asked = asked; so = (some, none) }, no_quit_at_end pages s t reads writes last b (ap (λ (m : Option (List ℕ)). unwrap_or m []) none) f, end_stopped pages s t reads writes calls last b (ap (λ (m : Option (List ℕ)). unwrap_or m []) none) e f h.1))

-- one more read that came after the answers
pub answers_first-append_one : (pages : ℕ) (s : Triple) (first now : Moment) (before reads : List Call) (read : Call) (moments : List Moment) → AnswersFirst pages s first before reads moments → IsAnswered pages s first now (before ++ reads) → AnswersFirst pages s first before (reads ++ read ∷ []) (moments ++ now ∷ [])
answers_first-append_one pages s first now before [] read [] h is = (subst (λ (z : List Call). IsAnswered pages s first now z) (append-nil before) is, tt)
answers_first-append_one pages s first now before [] read (one ∷ moments) h is = absurd h
answers_first-append_one pages s first now before (one ∷ reads) read [] h is = absurd h
answers_first-append_one pages s first now before (one ∷ reads) read (next ∷ moments) h is =
    (h.0, answers_first-append_one pages s first now (before ++ one ∷ []) reads read moments h.1 (subst (λ (z : List Call). IsAnswered pages s first now z) (sym (append_assoc before (one ∷ []) reads)) is))

pub moments-append_one : (a b c moments : List Moment) (now : Moment) → b ≡ a ++ moments → c ≡ b ++ now ∷ [] → c ≡ a ++ (moments ++ now ∷ [])
moments-append_one a b c moments now e f = f ∙ (ap (λ (z : List Moment). z ++ now ∷ []) e ∙ append_assoc a moments (now ∷ []))

-- the lines so far are answered
pub answered_so_far : (pages : ℕ) (s t : Triple) (first now : Moment) (reads writes : List Call) (pending : List ℕ) → now.reads ≡ first.reads ++ reads → now.writes ≡ first.writes ++ writes → Each MovesSome writes → GoesOn pages s (bytes_moved reads) t pending (bytes_moved writes) → IsAnswered pages s first now reads
answered_so_far pages s t first now reads writes pending e f each on =
    record { writes = writes; reads_are = e; writes_are = f; text = (bytes_moved writes, on.complete_text, record { each = each; all = refl }) }
