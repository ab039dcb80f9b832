-- The runs of words: they hold the words in order, they are the longest, and no others are.
use Rattle.std.proofs.Common.{◌≡◌, ◌≢◌, ℕ, ◌+◌, ◌<◌, cond, List, [], ◌∷◌, ◌++◌, length, refl, sym, ap, subst, ◌∙◌, append_assoc, append-nil, arith, inl, inr}
use Rattle.std.proofs.lemmas.Bool.{eq-eqb, ne_eqb, cases_eq}
use Rattle.r3k_image.specs.Segments.{WordsAt, end_of, entries_from}
use Rattle.r3k_image.specs.Writing.{onto_runs, runs_of, words_in, BeginsElsewhere, AreLongest}

abbrev pub at : ℕ → List ℕ → WordsAt
at address words = record { address = address; words = words }

pub onto-joins : (a w : ℕ) (s : WordsAt) (ss : List WordsAt) → s.address ≡ a + 4 → onto_runs a w (s ∷ ss) ≡ at a (w ∷ s.words) ∷ ss
onto-joins a w s ss e = ap (λ b. cond b (at a (w ∷ s.words) ∷ ss) (at a (w ∷ []) ∷ s ∷ ss)) (eq-eqb s.address (a + 4) e)

pub onto-apart : (a w : ℕ) (s : WordsAt) (ss : List WordsAt) → s.address ≢ a + 4 → onto_runs a w (s ∷ ss) ≡ at a (w ∷ []) ∷ s ∷ ss
onto-apart a w s ss e = ap (λ b. cond b (at a (w ∷ s.words) ∷ ss) (at a (w ∷ []) ∷ s ∷ ss)) (ne_eqb s.address (a + 4) e)

-- a word before runs is before their words
words_in-onto : (a w : ℕ) (ss : List WordsAt) → words_in (onto_runs a w ss) ≡ (a, w) ∷ words_in ss
words_in-onto a w [] = refl
words_in-onto a w (s ∷ ss) =
    elim (cases_eq s.address (a + 4)) [
      | inl e ↦
          ap words_in (onto-joins a w s ss e)
          ∙ ap (λ (n : ℕ). (a, w) ∷ entries_from n s.words ++ words_in ss) (sym e)
      | inr n ↦ ap words_in (onto-apart a w s ss n)
    ]

-- the runs of words hold these words
pub words_in-runs_of : (es : List (ℕ × ℕ)) → words_in (runs_of es) ≡ es
words_in-runs_of [] = refl
words_in-runs_of (e ∷ es) = words_in-onto e.0 e.1 (runs_of es) ∙ ap (λ (xs : List (ℕ × ℕ)). e ∷ xs) (words_in-runs_of es)

-- a word before the longest runs makes the longest runs
longest-onto : (a w : ℕ) (ss : List WordsAt) → AreLongest ss → AreLongest (onto_runs a w ss)
longest-onto a w [] h = (omega arith, tt, tt)
longest-onto a w (s ∷ ss) h =
    elim (cases_eq s.address (a + 4)) [
      | inl e ↦
          let same : end_of s.address (length s.words) ≡ end_of a (length (w ∷ s.words)) = omega arith in
          subst AreLongest (sym (onto-joins a w s ss e)) (omega arith, subst (λ (n : ℕ). BeginsElsewhere n ss) same h.1, h.2)
      | inr n ↦ subst AreLongest (sym (onto-apart a w s ss n)) (omega arith, n, h)
    ]

pub longest-runs_of : (es : List (ℕ × ℕ)) → AreLongest (runs_of es)
longest-runs_of [] = tt
longest-runs_of (e ∷ es) = longest-onto e.0 e.1 (runs_of es) (longest-runs_of es)

-- the words of a segment before runs that begin elsewhere are a run of their own
one_run : (a : ℕ) (w : ℕ) (ws : List ℕ) (es : List (ℕ × ℕ)) (ss : List WordsAt) → runs_of es ≡ ss → BeginsElsewhere (end_of a (length (w ∷ ws))) ss
    → runs_of (entries_from a (w ∷ ws) ++ es) ≡ at a (w ∷ ws) ∷ ss
one_run a w [] es [] e h = ap (onto_runs a w) e
one_run a w [] es (s ∷ ss) e h = ap (onto_runs a w) e ∙ onto-apart a w s ss h
one_run a w (v ∷ vs) es ss e h =
    let same : end_of a (length (w ∷ v ∷ vs)) ≡ end_of (a + 4) (length (v ∷ vs)) = omega arith in
    ap (onto_runs a w) (one_run (a + 4) v vs es ss e (subst (λ (n : ℕ). BeginsElsewhere n ss) same h))
    ∙ onto-joins a w (at (a + 4) (v ∷ vs)) ss refl

first_run : (a : ℕ) (ws : List ℕ) (es : List (ℕ × ℕ)) (ss : List WordsAt) → runs_of es ≡ ss → 0 < length ws → BeginsElsewhere (end_of a (length ws)) ss
    → runs_of (entries_from a ws ++ es) ≡ at a ws ∷ ss
first_run a [] es ss e some apart = absurd (omega arith)
first_run a (w ∷ ws) es ss e some apart = one_run a w ws es ss e apart

-- the longest runs are those of their words
pub runs_of-words_in : (ss : List WordsAt) → AreLongest ss → runs_of (words_in ss) ≡ ss
runs_of-words_in [] h = refl
runs_of-words_in (s ∷ ss) h = first_run s.address s.words (words_in ss) ss (runs_of-words_in ss h.2) h.0 h.1

-- ---- words after others

pub entries_from-append : (a : ℕ) (ws vs : List ℕ) → entries_from a (ws ++ vs) ≡ entries_from a ws ++ entries_from (end_of a (length ws)) vs
entries_from-append a [] vs = ap (λ (n : ℕ). entries_from n vs) (let e : a ≡ end_of a 0 = omega arith in e)
entries_from-append a (w ∷ ws) vs =
    let same : end_of (a + 4) (length ws) ≡ end_of a (length (w ∷ ws)) = omega arith in
    ap (λ (xs : List (ℕ × ℕ)). (a, w) ∷ xs) (entries_from-append (a + 4) ws vs ∙ ap (λ (n : ℕ). entries_from (a + 4) ws ++ entries_from n vs) same)

words_in-push : (ss : List WordsAt) (s : WordsAt) → words_in (ss ++ s ∷ []) ≡ words_in ss ++ entries_from s.address s.words
words_in-push [] s = append-nil (entries_from s.address s.words)
words_in-push (t ∷ ss) s = ap (λ (xs : List (ℕ × ℕ)). entries_from t.address t.words ++ xs) (words_in-push ss s) ∙ sym (append_assoc (entries_from t.address t.words) (words_in ss) (entries_from s.address s.words))

-- words that follow the last run at once
pub joined_words : (fs : List WordsAt) (s : WordsAt) (a : ℕ) (ws : List ℕ) → end_of s.address (length s.words) ≡ a
    → words_in (fs ++ at s.address (s.words ++ ws) ∷ []) ≡ words_in (fs ++ s ∷ []) ++ entries_from a ws
joined_words fs s a ws e =
    words_in-push fs (at s.address (s.words ++ ws))
    ∙ ap (λ (xs : List (ℕ × ℕ)). words_in fs ++ xs) (entries_from-append s.address s.words ws ∙ ap (λ (n : ℕ). entries_from s.address s.words ++ entries_from n ws) e)
    ∙ sym (append_assoc (words_in fs) (entries_from s.address s.words) (entries_from a ws))
    ∙ ap (λ (xs : List (ℕ × ℕ)). xs ++ entries_from a ws) (sym (words_in-push fs s))

-- another last run with the same address
pub longest-joined : (fs : List WordsAt) (s : WordsAt) (ws : List ℕ) → AreLongest (fs ++ s ∷ []) → AreLongest (fs ++ at s.address (s.words ++ ws) ∷ [])
longest-joined [] s ws h = (more s.words h.0, tt, tt)
  where
    more : (vs : List ℕ) → 0 < length vs → 0 < length (vs ++ ws)
    more [] some = absurd (omega arith)
    more (v ∷ vs) some = omega arith
longest-joined (f ∷ []) s ws h = (h.0, h.1, longest-joined [] s ws h.2)
longest-joined (f ∷ g ∷ fs) s ws h = (h.0, h.1, longest-joined (g ∷ fs) s ws h.2)

pub longest-first : (a : ℕ) (ws : List ℕ) → 0 < length ws → AreLongest (at a ws ∷ [])
longest-first a ws some = (some, tt, tt)

pub longest-pushed : (fs : List WordsAt) (s : WordsAt) (a : ℕ) (ws : List ℕ) → 0 < length ws → end_of s.address (length s.words) ≢ a
    → AreLongest (fs ++ s ∷ []) → AreLongest ((fs ++ s ∷ []) ++ at a ws ∷ [])
longest-pushed [] s a ws some apart h = (h.0, λ e. apart (sym e), longest-first a ws some)
longest-pushed (f ∷ []) s a ws some apart h = (h.0, h.1, longest-pushed [] s a ws some apart h.2)
longest-pushed (f ∷ g ∷ fs) s a ws some apart h = (h.0, h.1, longest-pushed (g ∷ fs) s a ws some apart h.2)
