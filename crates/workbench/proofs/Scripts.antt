-- Lines of a script as their bytes come.
use Rattle.std.proofs.Common.{◌≡◌, ◌≢◌, inl, inr, ℕ, ◌<◌, Bool, true, false, cond, ◌==◌, ◌||◌, List, [], ◌∷◌, ◌++◌, length, Option, Some, None, Result, Ok, Err, refl, sym, ap, subst, ◌∙◌, append_assoc, arith, length-append}
use Rattle.std.proofs.lemmas.Grind.{common_steps}
use Rattle.std.proofs.lemmas.List.{append-nil}
use Rattle.wb_text.specs.Command.{command_of}
use Rattle.wb_text.specs.Reply.{text_of}
use Rattle.wb_text.specs.declared.command.Command.{Command}
use Rattle.refusal.specs.declared.fault.Fault.{Fault}
use Rattle.refusal.specs.declared.fault.Fault.TheVariants.{Syntax}
use Rattle.wb_text.specs.declared.reply.Reply.TheVariants.{Fault as Refused}
use Rattle.workbench.specs.LineBuffer.{HasNoFeed}
use Rattle.wb_session.specs.Session.{Triple, plain}
use Rattle.workbench.specs.Script.{onto_first, lines_of, has_feed, complete_part, complete_lines, is_quit, says_quit, Rest, FromCommand, FromLine, IsText, Quits}
use Rattle.wb_io.specs.Calls.{Call, TakesAll}
use Rattle.wb_io.proofs.CallLemmas.{TakesFront-after, TakesFront-more}
use Rattle.workbench.specs.Taking.{GoesOn, Ends, LeadsTo, Stops, Unanswered}
use Rattle.workbench.proofs.Feeds.{no_feed_push}

-- bytes in front of the first line
prefixed : List ℕ → List (List ℕ) → List (List ℕ)
prefixed [] lines = lines
prefixed (byte ∷ bytes) lines = onto_first byte (prefixed bytes lines)

lines_prefixed : (kept bytes : List ℕ) → HasNoFeed kept → lines_of (kept ++ bytes) ≡ prefixed kept (lines_of bytes)
unfolding prefixed lines_of
lines_prefixed [] bytes h = refl
lines_prefixed (b ∷ kept) bytes h =
    ap (λ test. cond test ([] ∷ lines_of (kept ++ bytes)) (onto_first b (lines_of (kept ++ bytes)))) h.0
    ∙ ap (onto_first b) (lines_prefixed kept bytes h.1)

prefixed_line : (kept line : List ℕ) (lines : List (List ℕ)) → prefixed kept (line ∷ lines) ≡ (kept ++ line) ∷ lines
unfolding prefixed
prefixed_line [] line lines = refl
prefixed_line (b ∷ kept) line lines = ap (onto_first b) (prefixed_line kept line lines)

prefixed_end : (byte : ℕ) (kept : List ℕ) → prefixed (byte ∷ kept) [] ≡ (byte ∷ kept) ∷ []
unfolding prefixed
prefixed_end byte [] = refl
prefixed_end byte (b ∷ kept) = ap (onto_first byte) (prefixed_end b kept)

-- a line that ends
fed : (kept bytes : List ℕ) → HasNoFeed kept → lines_of ((kept ++ 10 ∷ []) ++ bytes) ≡ kept ∷ lines_of bytes
unfolding lines_of
fed kept bytes h =
    ap lines_of (append_assoc kept (10 ∷ []) bytes)
    ∙ (lines_prefixed kept (10 ∷ bytes) h ∙ (prefixed_line kept [] (lines_of bytes) ∙ ap (λ (l : List ℕ). l ∷ lines_of bytes) (append-nil kept)))

-- a last line without a line feed
pub last_line : (byte : ℕ) (kept : List ℕ) → HasNoFeed (byte ∷ kept) → lines_of ((byte ∷ kept) ++ []) ≡ (byte ∷ kept) ∷ []
unfolding lines_of
last_line byte kept h = lines_prefixed (byte ∷ kept) [] h ∙ prefixed_end byte kept

-- the complete part of a script
feed_after : (byte : ℕ) (r : Bool) → r ≡ true → ((byte == 10) || r) ≡ true
feed_after byte true e = by_first (byte == 10)
  where
    by_first : (q : Bool) → (q || true) ≡ true
    by_first true = refl
    by_first false = refl
feed_after byte false e = absurd (let bad : false ≡ true = e in cc)

has_feed-append : (a p : List ℕ) → has_feed p ≡ true → has_feed (a ++ p) ≡ true
has_feed-append [] p h = h
has_feed-append (b ∷ a) p h = feed_after b (has_feed (a ++ p)) (has_feed-append a p h)

has_feed-append_none : (a p : List ℕ) → has_feed p ≡ false → has_feed (a ++ p) ≡ has_feed a
has_feed-append_none [] p h = h
has_feed-append_none (b ∷ a) p h = ap (λ r. (b == 10) || r) (has_feed-append_none a p h)

pub no_feed : (bytes : List ℕ) → HasNoFeed bytes → has_feed bytes ≡ false
no_feed [] h = refl
no_feed (b ∷ bytes) h = ap (λ r. r || has_feed bytes) h.0 ∙ no_feed bytes h.1

complete_none : (p : List ℕ) → has_feed p ≡ false → complete_part p ≡ []
unfolding complete_part
complete_none [] h = refl
complete_none (b ∷ p) h = ap (λ test. cond test (b ∷ complete_part p) []) h

complete-append : (a p : List ℕ) → has_feed p ≡ true → complete_part (a ++ p) ≡ a ++ complete_part p
unfolding complete_part
complete-append [] p h = refl
complete-append (b ∷ a) p h =
    ap (λ test. cond test (b ∷ complete_part (a ++ p)) []) (has_feed-append (b ∷ a) p h) ∙ ap (λ (z : List ℕ). b ∷ z) (complete-append a p h)

complete-append_none : (a p : List ℕ) → has_feed p ≡ false → complete_part (a ++ p) ≡ complete_part a
unfolding complete_part
complete-append_none [] p h = complete_none p h
complete-append_none (b ∷ a) p h =
    ap (λ test. cond test (b ∷ complete_part (a ++ p)) []) (has_feed-append_none (b ∷ a) p h)
    ∙ ap (λ (z : List ℕ). cond (has_feed (b ∷ a)) (b ∷ z) []) (complete-append_none a p h)

complete_line : (kept : List ℕ) → complete_part (kept ++ 10 ∷ []) ≡ kept ++ 10 ∷ []
unfolding complete_part
complete_line kept = complete-append kept (10 ∷ []) refl

-- a reply, and what follows it
from_command : (pages : ℕ) (s new : Triple) (command : Command) (quits : Bool) (x y : List ℕ) (rest : Rest) → FromCommand pages s command quits (λ t more. (t ≡ new) × (more ≡ [])) x → quits ≡ false → rest new y → FromCommand pages s command quits rest (x ++ y)
from_command pages s new command true x y rest h q r = absurd (let bad : true ≡ false = q in cc)
from_command pages s new command false x y rest h q r = (
  h.0,
  h.1,
  y,
  h.3,
  ap (λ (z : List ℕ). z ++ y) (h.4 ∙ (ap (λ (z : List ℕ). text_of h.1 ++ z) h.5.1 ∙ append-nil (text_of h.1))),
  subst (λ (t : Triple). rest t y) (sym h.5.0) r,
)

from_line : (pages : ℕ) (s new : Triple) (said : Result (Option Command) Fault) (x y : List ℕ) (rest : Rest) → FromLine pages s said (λ t more. (t ≡ new) × (more ≡ [])) x → says_quit said ≡ false → rest new y → FromLine pages s said rest (x ++ y)
from_line pages s new (Err fault) x y rest h q r =
    (y, ap (λ (z : List ℕ). z ++ y) (h.1 ∙ (ap (λ (z : List ℕ). text_of (Refused fault) ++ z) h.2.1 ∙ append-nil (text_of (Refused fault)))), subst (λ (t : Triple). rest t y) (sym h.2.0) r)
from_line pages s new (Ok None) x y rest h q r =
    subst (λ (t : Triple). rest t (x ++ y)) (sym h.0) (subst (λ (z : List ℕ). rest new z) (ap (λ (z : List ℕ). z ++ y) (sym h.1)) r)
from_line pages s new (Ok (Some command)) x y rest h q r = from_command pages s new command (is_quit command) x y rest h q r

-- from `quit` on there is nothing
at_quit : (pages : ℕ) (s : Triple) (said : Result (Option Command) Fault) (rest : Rest) → says_quit said ≡ true → FromLine pages s said rest []
at_quit pages s (Err fault) rest q = absurd (let bad : false ≡ true = q in cc)
at_quit pages s (Ok None) rest q = absurd (let bad : false ≡ true = q in cc)
at_quit pages s (Ok (Some command)) rest q = subst (λ quits. FromCommand pages s command quits rest []) (sym q) refl

-- any lines have a text
text_from : (pages : ℕ) (s : Triple) (said : Result (Option Command) Fault) (rest : Rest) → ((t : Triple) → (text : List ℕ) × rest t text) → (text : List ℕ) × FromLine pages s said rest text
text_from pages s (Err fault) rest some = (text_of (Refused fault) ++ (some s).0, ((some s).0, refl, (some s).1))
text_from pages s (Ok None) rest some = some s
text_from pages s (Ok (Some command)) rest some = by_quit (is_quit command)
  where
    by_quit : (quits : Bool) → (text : List ℕ) × FromCommand pages s command quits rest text
    by_quit true = ([], refl)
    by_quit false =
        let answer = plain pages s command in
        (text_of answer.reply ++ (some answer.session).0, (answer.session, answer.reply, (some answer.session).0, inl refl, refl, (some answer.session).1))

pub some_text : (pages : ℕ) (s : Triple) (lines : List (List ℕ)) → (text : List ℕ) × IsText pages s lines text
some_text pages s [] = ([], refl)
some_text pages s (line ∷ lines) = text_from pages s (command_of line) (λ t more. IsText pages t lines more) (λ t. some_text pages t lines)

-- a line ends, and is answered
pub text_after_line : (pages : ℕ) (s new : Triple) (kept x bytes more : List ℕ) → HasNoFeed kept → LeadsTo pages s kept new x → IsText pages new (lines_of bytes) more → IsText pages s (lines_of ((kept ++ 10 ∷ []) ++ bytes)) (x ++ more)
text_after_line pages s new kept x bytes more n h t =
    subst (λ (ls : List (List ℕ)). IsText pages s ls (x ++ more)) (sym (fed kept bytes n)) (from_line pages s new (command_of kept) x more (λ u m. IsText pages u (lines_of bytes) m) h.answered h.no_quit t)

only_rest : (kept : List ℕ) (lines : List (List ℕ)) → says_quit (command_of kept) ≡ false → Quits (kept ∷ lines) → Quits lines
only_rest kept lines e (inl q) = absurd (let bad : true ≡ false = sym q ∙ e in cc)
only_rest kept lines e (inr q) = q

pub goes_on_after_line : (pages : ℕ) (s new : Triple) (kept x : List ℕ) → HasNoFeed kept → LeadsTo pages s kept new x → GoesOn pages s (kept ++ 10 ∷ []) new [] x
unfolding lines_of
goes_on_after_line pages s new kept x n h = record {
  text_goes_on = λ bytes more t. text_after_line pages s new kept x bytes more n h t;
  quits_too = λ bytes q. subst Quits (sym (fed kept bytes n)) (inr q);
  quits_only = λ bytes q. only_rest kept (lines_of bytes) h.no_quit (subst Quits (fed kept bytes n) q);
  no_quit = λ q. only_rest kept [] h.no_quit (subst Quits (fed kept [] n) (subst (λ (z : List ℕ). Quits (lines_of z)) (complete_line kept ∙ sym (append-nil (kept ++ 10 ∷ []))) q));
  complete_text =
      let all : IsText pages s (lines_of ((kept ++ 10 ∷ []) ++ [])) (x ++ []) = text_after_line pages s new kept x [] [] n h refl in
      subst (λ (z : List ℕ). IsText pages s (lines_of z) x) (append-nil (kept ++ 10 ∷ []) ∙ sym (complete_line kept))
      (subst (λ (z : List ℕ). IsText pages s (lines_of ((kept ++ 10 ∷ []) ++ [])) z) (append-nil x) all);
  no_feed = tt;
}

-- a line ends, and it is `quit`
pub ends_at_quit : (pages : ℕ) (s : Triple) (kept : List ℕ) → HasNoFeed kept → says_quit (command_of kept) ≡ true → Ends pages s (kept ++ 10 ∷ []) []
ends_at_quit pages s kept n e = record {
  is_text = λ bytes. subst (λ (ls : List (List ℕ)). IsText pages s ls []) (sym (fed kept bytes n)) (at_quit pages s (command_of kept) (λ u m. IsText pages u (lines_of bytes) m) e);
  quits = λ bytes. subst Quits (sym (fed kept bytes n)) (inl e);
}

-- a byte that is kept
pub goes_on_with_byte : (pages : ℕ) (s : Triple) (input : List ℕ) → HasNoFeed input → GoesOn pages s input s input []
unfolding lines_of
goes_on_with_byte pages s input n = record {
  text_goes_on = λ bytes more t. t;
  quits_too = λ bytes q. q;
  quits_only = λ bytes q. q;
  no_quit = λ q. subst (λ (z : List ℕ). Quits (lines_of z)) (complete_none input (no_feed input n)) q;
  complete_text = subst (λ (z : List ℕ). IsText pages s (lines_of z) []) (sym (complete_none input (no_feed input n))) refl;
  no_feed = n;
}

long_is_syntax : (line : List ℕ) → 257 < length line → command_of line ≡ Err Syntax
long_is_syntax line h = grind (arith, common_steps)

-- a byte of a line that is too long is dropped: the line is Syntax with it and without
same_long : (pages : ℕ) (s : Triple) (a b : List ℕ) (lines : List (List ℕ)) (more : List ℕ) → 257 < length a → 257 < length b → IsText pages s (a ∷ lines) more → IsText pages s (b ∷ lines) more
same_long pages s a b lines more ha hb t =
    subst (λ (said : Result (Option Command) Fault). FromLine pages s said (λ u m. IsText pages u lines m) more) (long_is_syntax a ha ∙ sym (long_is_syntax b hb)) t

quits_long : (a b : List ℕ) (lines : List (List ℕ)) → 257 < length a → 257 < length b → Quits (a ∷ lines) → Quits (b ∷ lines)
quits_long a b lines ha hb (inl e) = inl (ap says_quit (long_is_syntax b hb ∙ sym (long_is_syntax a ha)) ∙ e)
quits_long a b lines ha hb (inr q) = inr q

-- the lines of a part of a line that is too long, with one more byte or without
long_parts : (pages : ℕ) (s : Triple) (k : ℕ) (kept : List ℕ) (byte : ℕ) (lines : List (List ℕ)) (more : List ℕ) → 257 < length (k ∷ kept) → IsText pages s (prefixed (k ∷ kept) lines) more → IsText pages s (prefixed ((k ∷ kept) ++ byte ∷ []) lines) more
long_parts pages s k kept byte [] more h t =
    subst (λ (ls : List (List ℕ)). IsText pages s ls more) (sym (prefixed_end k (kept ++ byte ∷ [])))
    (same_long pages s (k ∷ kept) ((k ∷ kept) ++ byte ∷ []) [] more h (let e = length-append (k ∷ kept) (byte ∷ []) in omega (arith, e)) (subst (λ (ls : List (List ℕ)). IsText pages s ls more) (prefixed_end k kept) t))
long_parts pages s k kept byte (line ∷ lines) more h t =
    subst (λ (ls : List (List ℕ)). IsText pages s ls more) (sym (prefixed_line ((k ∷ kept) ++ byte ∷ []) line lines))
    (same_long pages s ((k ∷ kept) ++ line) (((k ∷ kept) ++ byte ∷ []) ++ line) lines more
    (let e = length-append (k ∷ kept) line in omega (arith, e))
    (let e = length-append ((k ∷ kept) ++ byte ∷ []) line in let f = length-append (k ∷ kept) (byte ∷ []) in omega (arith, e, f))
    (subst (λ (ls : List (List ℕ)). IsText pages s ls more) (prefixed_line (k ∷ kept) line lines) t))

long_quits : (k : ℕ) (kept : List ℕ) (byte : ℕ) (lines : List (List ℕ)) → 257 < length (k ∷ kept) → Quits (prefixed (k ∷ kept) lines) → Quits (prefixed ((k ∷ kept) ++ byte ∷ []) lines)
long_quits k kept byte [] h q =
    subst Quits (sym (prefixed_end k (kept ++ byte ∷ [])))
    (quits_long (k ∷ kept) ((k ∷ kept) ++ byte ∷ []) [] h (let e = length-append (k ∷ kept) (byte ∷ []) in omega (arith, e)) (subst Quits (prefixed_end k kept) q))
long_quits k kept byte (line ∷ lines) h q =
    subst Quits (sym (prefixed_line ((k ∷ kept) ++ byte ∷ []) line lines))
    (quits_long ((k ∷ kept) ++ line) (((k ∷ kept) ++ byte ∷ []) ++ line) lines
    (let e = length-append (k ∷ kept) line in omega (arith, e))
    (let e = length-append ((k ∷ kept) ++ byte ∷ []) line in let f = length-append (k ∷ kept) (byte ∷ []) in omega (arith, e, f))
    (subst Quits (prefixed_line (k ∷ kept) line lines) q))

long_quits_back : (k : ℕ) (kept : List ℕ) (byte : ℕ) (lines : List (List ℕ)) → 257 < length (k ∷ kept) → Quits (prefixed ((k ∷ kept) ++ byte ∷ []) lines) → Quits (prefixed (k ∷ kept) lines)
long_quits_back k kept byte [] h q =
    subst Quits (sym (prefixed_end k kept))
    (quits_long ((k ∷ kept) ++ byte ∷ []) (k ∷ kept) [] (let e = length-append (k ∷ kept) (byte ∷ []) in omega (arith, e)) h (subst Quits (prefixed_end k (kept ++ byte ∷ [])) q))
long_quits_back k kept byte (line ∷ lines) h q =
    subst Quits (sym (prefixed_line (k ∷ kept) line lines))
    (quits_long (((k ∷ kept) ++ byte ∷ []) ++ line) ((k ∷ kept) ++ line) lines
    (let e = length-append ((k ∷ kept) ++ byte ∷ []) line in let f = length-append (k ∷ kept) (byte ∷ []) in omega (arith, e, f))
    (let e = length-append (k ∷ kept) line in omega (arith, e))
    (subst Quits (prefixed_line ((k ∷ kept) ++ byte ∷ []) line lines) q))

-- a byte after the first 258 of its line is dropped
pub goes_on_without_byte : (pages : ℕ) (s : Triple) (kept : List ℕ) (byte : ℕ) → HasNoFeed kept → byte ≢ 10 → 257 < length kept → GoesOn pages s (kept ++ byte ∷ []) s kept []
unfolding lines_of
goes_on_without_byte pages s [] byte n e h = absurd (omega arith)
goes_on_without_byte pages s (k ∷ kept) byte n e h =
    let longer : HasNoFeed ((k ∷ kept) ++ byte ∷ []) = no_feed_push (k ∷ kept) byte n e in
    record {
      text_goes_on = λ bytes more t.
          subst (λ (ls : List (List ℕ)). IsText pages s ls more) (sym (lines_prefixed ((k ∷ kept) ++ byte ∷ []) bytes longer))
          (long_parts pages s k kept byte (lines_of bytes) more h (subst (λ (ls : List (List ℕ)). IsText pages s ls more) (lines_prefixed (k ∷ kept) bytes n) t));
      quits_too = λ bytes q.
          subst Quits (sym (lines_prefixed ((k ∷ kept) ++ byte ∷ []) bytes longer))
          (long_quits k kept byte (lines_of bytes) h (subst Quits (lines_prefixed (k ∷ kept) bytes n) q));
      quits_only = λ bytes q.
          subst Quits (sym (lines_prefixed (k ∷ kept) bytes n))
          (long_quits_back k kept byte (lines_of bytes) h (subst Quits (lines_prefixed ((k ∷ kept) ++ byte ∷ []) bytes longer) q));
      no_quit = λ q. subst (λ (z : List ℕ). Quits (lines_of z)) (complete_none ((k ∷ kept) ++ byte ∷ []) (no_feed ((k ∷ kept) ++ byte ∷ []) longer)) q;
      complete_text = subst (λ (z : List ℕ). IsText pages s (lines_of z) []) (sym (complete_none ((k ∷ kept) ++ byte ∷ []) (no_feed ((k ∷ kept) ++ byte ∷ []) longer))) refl;
      no_feed = n;
    }

-- one part goes on, and then another
nothing_complete : (pages : ℕ) (t : Triple) (b p y : List ℕ) → has_feed p ≡ false → HasNoFeed b → IsText pages t (complete_lines (b ++ p)) y → y ≡ []
unfolding lines_of
nothing_complete pages t b p y e n h =
    subst (λ (z : List ℕ). IsText pages t (lines_of z) y) (complete-append_none b p e ∙ complete_none b (no_feed b n)) h

twice_complete : (pages : ℕ) (s t u : Triple) (a b p d x y : List ℕ) (fed : Bool) → has_feed p ≡ fed → GoesOn pages s a t b x → GoesOn pages t (b ++ p) u d y → IsText pages s (complete_lines (a ++ p)) (x ++ y)
twice_complete pages s t u a b p d x y true e f g =
    subst (λ (z : List ℕ). IsText pages s (lines_of z) (x ++ y)) (sym (complete-append a p e))
    (f.text_goes_on (complete_part p) y (subst (λ (z : List ℕ). IsText pages t (lines_of z) y) (complete-append b p e) g.complete_text))
twice_complete pages s t u a b p d x y false e f g =
    let none : y ≡ [] = nothing_complete pages t b p y e f.no_feed g.complete_text in
    subst (λ (z : List ℕ). IsText pages s (lines_of z) (x ++ y)) (sym (complete-append_none a p e))
    (subst (λ (z : List ℕ). IsText pages s (complete_lines a) z) (sym (ap (λ (z : List ℕ). x ++ z) none ∙ append-nil x)) f.complete_text)

twice_no_quit : (pages : ℕ) (s t u : Triple) (a b p d x y : List ℕ) (fed : Bool) → has_feed p ≡ fed → GoesOn pages s a t b x → GoesOn pages t (b ++ p) u d y → ¬ Quits (complete_lines (a ++ p))
twice_no_quit pages s t u a b p d x y true e f g q =
    g.no_quit (subst (λ (z : List ℕ). Quits (lines_of z)) (sym (complete-append b p e)) (f.quits_only (complete_part p) (subst (λ (z : List ℕ). Quits (lines_of z)) (complete-append a p e) q)))
twice_no_quit pages s t u a b p d x y false e f g q = f.no_quit (subst (λ (z : List ℕ). Quits (lines_of z)) (complete-append_none a p e) q)

pub goes_on_twice : (pages : ℕ) (s t u : Triple) (a b p d x y : List ℕ) → GoesOn pages s a t b x → GoesOn pages t (b ++ p) u d y → GoesOn pages s (a ++ p) u d (x ++ y)
goes_on_twice pages s t u a b p d x y f g = record {
  text_goes_on = λ bytes more h.
      subst (λ (z : List ℕ). IsText pages s (lines_of z) ((x ++ y) ++ more)) (sym (append_assoc a p bytes))
      (subst (λ (z : List ℕ). IsText pages s (lines_of (a ++ (p ++ bytes))) z) (sym (append_assoc x y more))
      (f.text_goes_on (p ++ bytes) (y ++ more) (subst (λ (z : List ℕ). IsText pages t (lines_of z) (y ++ more)) (append_assoc b p bytes) (g.text_goes_on bytes more h))));
  quits_too = λ bytes q.
      subst (λ (z : List ℕ). Quits (lines_of z)) (sym (append_assoc a p bytes))
      (f.quits_too (p ++ bytes) (subst (λ (z : List ℕ). Quits (lines_of z)) (append_assoc b p bytes) (g.quits_too bytes q)));
  quits_only = λ bytes q.
      g.quits_only bytes (subst (λ (z : List ℕ). Quits (lines_of z)) (sym (append_assoc b p bytes))
      (f.quits_only (p ++ bytes) (subst (λ (z : List ℕ). Quits (lines_of z)) (append_assoc a p bytes) q)));
  no_quit = twice_no_quit pages s t u a b p d x y (has_feed p) refl f g;
  complete_text = twice_complete pages s t u a b p d x y (has_feed p) refl f g;
  no_feed = g.no_feed;
}

-- one part goes on, and the next ends
pub ends_later : (pages : ℕ) (s t : Triple) (a b p x y : List ℕ) → GoesOn pages s a t b x → Ends pages t (b ++ p) y → Ends pages s (a ++ p) (x ++ y)
ends_later pages s t a b p x y f g = record {
  is_text = λ bytes.
      subst (λ (z : List ℕ). IsText pages s (lines_of z) (x ++ y)) (sym (append_assoc a p bytes))
      (f.text_goes_on (p ++ bytes) y (subst (λ (z : List ℕ). IsText pages t (lines_of z) y) (append_assoc b p bytes) (g.is_text bytes)));
  quits = λ bytes.
      subst (λ (z : List ℕ). Quits (lines_of z)) (sym (append_assoc a p bytes))
      (f.quits_too (p ++ bytes) (subst (λ (z : List ℕ). Quits (lines_of z)) (append_assoc b p bytes) (g.quits bytes)));
}

-- a text that ends stays the same with more bytes after it
pub ends_anyway : (pages : ℕ) (s : Triple) (a p x : List ℕ) → Ends pages s a x → Ends pages s (a ++ p) x
ends_anyway pages s a p x f = record {
  is_text = λ bytes. subst (λ (z : List ℕ). IsText pages s (lines_of z) x) (sym (append_assoc a p bytes)) (f.is_text (p ++ bytes));
  quits = λ bytes. subst (λ (z : List ℕ). Quits (lines_of z)) (sym (append_assoc a p bytes)) (f.quits (p ++ bytes));
}

-- a write that stops after a part stops where more follows
pub stops_later : (pages : ℕ) (s t : Triple) (a b p x : List ℕ) (first second : List Call) → GoesOn pages s a t b x → TakesAll x first → Stops pages t (b ++ p) second → Stops pages s (a ++ p) (first ++ second)
stops_later pages s t a b p x first second f w g = record {
  front = λ bytes.
      let h = g.front bytes in (
        x ++ h.0,
        subst (λ (z : List ℕ). IsText pages s (lines_of z) (x ++ h.0)) (sym (append_assoc a p bytes))
            (f.text_goes_on (p ++ bytes) h.0 (subst (λ (z : List ℕ). IsText pages t (lines_of z) h.0) (append_assoc b p bytes) h.1)),
        TakesFront-after x h.0 first second w h.2,
      );
}

pub stops_anyway : (pages : ℕ) (s : Triple) (a p : List ℕ) (calls : List Call) → Stops pages s a calls → Stops pages s (a ++ p) calls
stops_anyway pages s a p calls f = record {
  front = λ bytes. let h = f.front (p ++ bytes) in (h.0, subst (λ (z : List ℕ). IsText pages s (lines_of z) h.0) (sym (append_assoc a p bytes)) h.1, h.2);
}

-- the answer to a line is stopped
pub stops_at_line : (pages : ℕ) (s : Triple) (kept : List ℕ) (calls : List Call) → HasNoFeed kept → Unanswered pages s kept calls → Stops pages s (kept ++ 10 ∷ []) calls
stops_at_line pages s kept calls n h = record {
  front = λ bytes.
      let more = some_text pages h.0 (lines_of bytes) in
      (h.1 ++ more.0, text_after_line pages s h.0 kept h.1 bytes more.0 n h.2 more.1, TakesFront-more h.1 more.0 calls h.3);
}

-- nothing was read yet
pub goes_on_at_first : (pages : ℕ) (s : Triple) → GoesOn pages s [] s [] []
goes_on_at_first pages s = goes_on_with_byte pages s [] tt

-- the text of a last line that no line feed ends
pub text_of_last_line : (pages : ℕ) (s new : Triple) (byte : ℕ) (kept x : List ℕ) → HasNoFeed (byte ∷ kept) → LeadsTo pages s (byte ∷ kept) new x → IsText pages s (lines_of (byte ∷ kept)) x
text_of_last_line pages s new byte kept x n h =
    subst (λ (z : List ℕ). IsText pages s (lines_of z) x) (append-nil (byte ∷ kept))
    (subst (λ (ls : List (List ℕ)). IsText pages s ls x) (sym (last_line byte kept n))
    (subst (λ (z : List ℕ). IsText pages s ((byte ∷ kept) ∷ []) z) (append-nil x)
    (from_line pages s new (command_of (byte ∷ kept)) x [] (λ v m. IsText pages v [] m) h.answered h.no_quit refl)))

pub text_of_last_quit : (pages : ℕ) (s : Triple) (byte : ℕ) (kept : List ℕ) → HasNoFeed (byte ∷ kept) → says_quit (command_of (byte ∷ kept)) ≡ true → IsText pages s (lines_of (byte ∷ kept)) []
text_of_last_quit pages s byte kept n e =
    subst (λ (z : List ℕ). IsText pages s (lines_of z) []) (append-nil (byte ∷ kept))
    (subst (λ (ls : List (List ℕ)). IsText pages s ls []) (sym (last_line byte kept n))
    (at_quit pages s (command_of (byte ∷ kept)) (λ v m. IsText pages v [] m) e))

pub no_text : (pages : ℕ) (s : Triple) (line : List ℕ) → length line ≡ 0 → IsText pages s (lines_of line) []
unfolding lines_of
no_text pages s [] e = refl
no_text pages s (byte ∷ line) e = absurd (omega arith)
