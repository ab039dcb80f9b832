-- What clap reads of the line's words, in plain terms.
use Rattle.std.proofs.Common.{◌≡◌, ◌∙◌, ap, refl, subst, sym, inl, inr, Bool, true, false, List, [], ◌∷◌, Option, Some, None, codes, slice_get, drop, fold}
use Rattle.std.specs.Option.{option_map_or}
use Rattle.clap.proofs.FaultLemmas.{leaf_fault}
use Rattle.clap.specs.Lexer.{long_of}
use Rattle.clap.specs.Words.{Row, Rule, Text, first_of}
use Rattle.clap.specs.Simple.{App, built, matches_of, names_of}
use Rattle.clap.specs.Walk.{finished, nothing_held, rows_after, walk, with_default, has_row, Held, Walk, Waiting, idle, option, walked, settled, used}
use Rattle.clap.specs.Faults.{built_fault, level_fault, settle_fault, turn_fault, walk_fault}
use Rattle.clap.proofs.OnLiterals.{clap_on_literals}
use Rattle.wb_options.specs.Options.{command_line, faults_of, value_at, value_in}
use Rattle.wb_options.proofs.ClapRules.{Choice, OfKind, OfSize, OfLog, kind_filled, size_filled, log_filled, help_filled, rules, shape, name_of, filled, no_first, or_else-nil, hold, at, walk-parts, use-once, use-none, first-used}
use Rattle.wb_options.proofs.ClapSteps.{turn-trailing, turn-dashes, wait-dashes, settled_held, IdleStep, idle-step, WaitStep, wait-step}

-- ---- all words

-- the first of two values
abbrev pub or_first : Option Text → Option Text → Option Text
or_first None later = later
or_first (Some v) later = Some v

or_first-none : (before : Option Text) → before ≡ or_first before None
or_first-none None = refl
or_first-none (Some v) = refl

-- where the walk over the words ends
abbrev pub end_of_walk : Walk → List Text → Held
end_of_walk w words = (fold (walked rules []) w words).held

-- words that pass give an option the value that they have for it
abbrev pub Reads : Choice → List Text → Type 0
Reads which words = (rows : List Row) (pending : Option (Text × List Text))
    → walk_fault shape [] (at (hold rows pending) idle false) words ≡ []
    → settle_fault rules false (end_of_walk (at (hold rows pending) idle false) words) ≡ []
    → (settle_fault rules false (hold rows pending) ≡ [])
    × (first_of (name_of which) (settled rules (end_of_walk (at (hold rows pending) idle false) words)).rows
    ≡ or_first (first_of (name_of which) (settled_held rows pending)) (value_in (name_of which) words))

-- and so do they where the option b awaits its value
abbrev pub Awaits : Choice → List Text → Type 0
Awaits which words = (rows : List Row) (b : Choice)
    → walk_fault shape [] (at (hold rows (Some (name_of b, []))) (option (name_of b)) false) words ≡ []
    → settle_fault rules false (end_of_walk (at (hold rows (Some (name_of b, []))) (option (name_of b)) false) words) ≡ []
    → first_of (name_of which) (settled rules (end_of_walk (at (hold rows (Some (name_of b, []))) (option (name_of b)) false) words)).rows
    ≡ or_first (first_of (name_of which) rows) (value_at (name_of which) (Some (name_of b, None)) (slice_get words 0) (value_in (name_of which) words))

-- a use of an option, before the later words
chosen : (b which : Choice) (x : Text) (v next later : Option Text) (rows : List Row) → option_map_or (λ value. Some value) v next ≡ Some x → has_row (name_of b) rows ≡ false
    → or_first (first_of (name_of which) (used (filled b) (x ∷ []) rows)) later
    ≡ or_first (first_of (name_of which) rows) (value_at (name_of which) (Some (name_of b, v)) next later)
chosen OfKind OfKind x v next later rows is none = rw (first-used OfKind OfKind x rows none, no_first (codes "kind") rows none, is) refl
chosen OfKind OfSize x v next later rows is none = rw (first-used OfKind OfSize x rows none) refl
chosen OfKind OfLog x v next later rows is none = rw (first-used OfKind OfLog x rows none) refl
chosen OfSize OfKind x v next later rows is none = rw (first-used OfSize OfKind x rows none) refl
chosen OfSize OfSize x v next later rows is none = rw (first-used OfSize OfSize x rows none, no_first (codes "size") rows none, is) refl
chosen OfSize OfLog x v next later rows is none = rw (first-used OfSize OfLog x rows none) refl
chosen OfLog OfKind x v next later rows is none = rw (first-used OfLog OfKind x rows none) refl
chosen OfLog OfSize x v next later rows is none = rw (first-used OfLog OfSize x rows none) refl
chosen OfLog OfLog x v next later rows is none = rw (first-used OfLog OfLog x rows none, no_first (codes "log") rows none, is) refl

await-nil : (which : Choice) → Awaits which []
await-nil which rows b f s = absurd (use-none b rows s)

settle-one : (b : Choice) (x : Text) (rows : List Row) → settle_fault rules false (hold rows (Some (name_of b, x ∷ []))) ≡ [] → has_row (name_of b) rows ≡ false
settle-one OfKind x rows e = use-once OfKind x rows e
settle-one OfSize x rows e = use-once OfSize x rows e
settle-one OfLog x rows e = use-once OfLog x rows e

settled-one : (b : Choice) (x : Text) (rows : List Row) → settled_held rows (Some (name_of b, x ∷ [])) ≡ used (filled b) (x ∷ []) rows
settled-one OfKind x rows = refl
settled-one OfSize x rows = refl
settled-one OfLog x rows = refl

-- after `--` there are no more words
trailing-ends : (h : Held) (waiting : Waiting) (rest : List Text) → walk_fault shape [] (at h waiting true) rest ≡ [] → rest ≡ []
trailing-ends h waiting [] f = refl
trailing-ends h waiting (word ∷ rest) f =
    absurd (turn-trailing h waiting word (walk-parts (at h waiting true) word rest f).0)

await-more : (which : Choice) (word : Text) (rest : List Text) → Reads which rest → Awaits which (word ∷ rest)
await-more which word rest reads rows b f s = go (wait-step rows b word parts.0)
  where
    w : Walk
    w = at (hold rows (Some (name_of b, []))) (option (name_of b)) false

    parts : (turn_fault shape [] w word ≡ []) × (walk_fault shape [] (walked rules [] w word) rest ≡ [])
    parts = walk-parts w word rest f

    open_at : Walk → Type 0
    open_at v = settle_fault rules false (end_of_walk v rest) ≡ []

    read_at : Walk → Type 0
    read_at v = first_of (name_of which) (settled rules (end_of_walk v rest)).rows
        ≡ or_first (first_of (name_of which) rows) (value_at (name_of which) (Some (name_of b, None)) (Some word) (value_in (name_of which) (word ∷ rest)))

    go : WaitStep rows b word → read_at (walked rules [] w word)
    go (inl dashes) =
        let after : walked rules [] w word ≡ at w.held (option (name_of b)) true =
        ap (walked rules [] w) dashes ∙ wait-dashes w.held (name_of b) in
        let ended : rest ≡ [] = trailing-ends w.held (option (name_of b)) rest (subst (λ v. walk_fault shape [] v rest ≡ []) after parts.1) in
        let left : settle_fault rules false w.held ≡ [] =
        subst (λ ws. settle_fault rules false (end_of_walk (at w.held (option (name_of b)) true) ws) ≡ []) ended (subst open_at after s) in
        absurd (use-none b rows left)
    go (inr (none, next)) =
        let read = reads rows (Some (name_of b, word ∷ [])) (subst (λ v. walk_fault shape [] v rest ≡ []) next parts.1) (subst open_at next s) in
        let later_is : value_in (name_of which) (word ∷ rest) ≡ value_in (name_of which) rest =
        ap (λ o. value_at (name_of which) o (slice_get rest 0) (value_in (name_of which) rest)) none in
        let used_is = ap (λ rs. or_first (first_of (name_of which) rs) (value_in (name_of which) rest)) (settled-one b word rows) in
        let chosen_is = chosen b which word None (Some word) (value_in (name_of which) rest) rows refl (settle-one b word rows read.0) in
        let given = ap (λ later. or_first (first_of (name_of which) rows) (value_at (name_of which) (Some (name_of b, None)) (Some word) later)) (sym later_is) in
        subst read_at (sym next) (read.1 ∙ (used_is ∙ (chosen_is ∙ given)))

read-more : (which : Choice) (word : Text) (rest : List Text) → Reads which rest → Awaits which rest → Reads which (word ∷ rest)
read-more which word rest reads awaits rows pending f s = go (idle-step rows pending word parts.0)
  where
    w : Walk
    w = at (hold rows pending) idle false

    parts : (turn_fault shape [] w word ≡ []) × (walk_fault shape [] (walked rules [] w word) rest ≡ [])
    parts = walk-parts w word rest f

    open_at : Walk → Type 0
    open_at v = settle_fault rules false (end_of_walk v rest) ≡ []

    read_at : Walk → Type 0
    read_at v = (settle_fault rules false (hold rows pending) ≡ [])
        × (first_of (name_of which) (settled rules (end_of_walk v rest)).rows
        ≡ or_first (first_of (name_of which) (settled_held rows pending)) (value_in (name_of which) (word ∷ rest)))

    value_is : (b : Choice) (v : Option Text) → long_of word ≡ Some (name_of b, v)
        → value_in (name_of which) (word ∷ rest) ≡ value_at (name_of which) (Some (name_of b, v)) (slice_get rest 0) (value_in (name_of which) rest)
    value_is b v l = ap (λ o. value_at (name_of which) o (slice_get rest 0) (value_in (name_of which) rest)) l

    go : IdleStep rows pending word → read_at (walked rules [] w word)
    go (inl dashes) =
        let after : walked rules [] w word ≡ at w.held idle true = ap (walked rules [] w) dashes ∙ turn-dashes w.held in
        let ended : rest ≡ [] = trailing-ends w.held idle rest (subst (λ v. walk_fault shape [] v rest ≡ []) after parts.1) in
        let left : settle_fault rules false w.held ≡ [] =
        subst (λ ws. settle_fault rules false (end_of_walk (at w.held idle true) ws) ≡ []) ended (subst open_at after s) in
        let nothing : value_in (name_of which) (word ∷ rest) ≡ None =
        ap (λ ws. value_in (name_of which) (word ∷ ws)) ended ∙ ap (λ d. value_at (name_of which) (long_of d) None None) dashes in
        let kept : first_of (name_of which) (settled rules (end_of_walk (at w.held idle true) rest)).rows ≡ first_of (name_of which) (settled_held rows pending) =
        ap (λ ws. first_of (name_of which) (settled rules (end_of_walk (at w.held idle true) ws)).rows) ended in
        subst read_at (sym after) (left, kept ∙ (or_first-none (first_of (name_of which) (settled_held rows pending)) ∙ ap (or_first (first_of (name_of which) (settled_held rows pending))) (sym nothing)))
    go (inr (b, Some x, l, left, next)) =
        let R : List Row = settled_held rows pending in
        let read = reads (used (filled b) (x ∷ []) R) None (subst (λ v. walk_fault shape [] v rest ≡ []) next.1 parts.1) (subst open_at next.1 s) in
        let chosen_is = chosen b which x (Some x) (slice_get rest 0) (value_in (name_of which) rest) R refl next.0 in
        let given = ap (or_first (first_of (name_of which) R)) (sym (value_is b (Some x) l)) in
        subst read_at (sym next.1) (left, read.1 ∙ (chosen_is ∙ given))
    go (inr (b, None, l, left, next)) =
        let R : List Row = settled_held rows pending in
        let read = awaits R b (subst (λ v. walk_fault shape [] v rest ≡ []) next parts.1) (subst open_at next s) in
        let given = ap (or_first (first_of (name_of which) R)) (sym (value_is b None l)) in
        subst read_at (sym next) (left, read ∙ given)

read-all : (which : Choice) (words : List Text) → Reads which words
read-all which [] rows pending f s = (s, or_first-none (first_of (name_of which) (settled_held rows pending)))
read-all which (word ∷ []) rows pending f s = read-more which word [] (read-all which []) (await-nil which) rows pending f s
read-all which (word ∷ next ∷ rest) rows pending f s =
    read-more which word (next ∷ rest) (read-all which (next ∷ rest)) (await-more which next rest (read-all which rest)) rows pending f s

-- ---- the line

app_is : built command_line ≡ record { top = shape; subs = [] }
unfolding clap_on_literals
app_is = refl

-- no option has a default of clap's
with_default-none : (rows : List Row) (a : Rule) → a.defaults ≡ [] → with_default rows a ≡ rows
with_default-none rows a none = go (has_row a.id rows) refl
  where
    go : (b : Bool) → has_row a.id rows ≡ b → with_default rows a ≡ rows
    go true e = rw e refl
    go false e = rw (e, none) refl

finished-is : (h : Held) → finished rules h ≡ (settled rules h).rows
finished-is h =
    let rows = (settled rules h).rows in
    ap (λ rs. with_default (with_default (with_default rs size_filled) log_filled) help_filled) (with_default-none rows kind_filled refl)
    ∙ (ap (λ rs. with_default (with_default rs log_filled) help_filled) (with_default-none rows size_filled refl)
    ∙ (ap (λ rs. with_default rs help_filled) (with_default-none rows log_filled refl) ∙ with_default-none rows help_filled refl))

-- good words give an option the value that they have for it
pub value-in_words : (which : Choice) (words : List Text) → faults_of words ≡ []
    → first_of (name_of which) (matches_of command_line words) ≡ value_in (name_of which) (drop 1 words)
value-in_words which words good =
    let ws : List Text = drop 1 words in
    let level : level_fault shape [] nothing_held ws false [] ≡ [] =
    sym (leaf_fault (record { top = shape; subs = [] }) nothing_held ws refl)
    ∙ subst (λ (a : App). built_fault a nothing_held ws ≡ []) app_is good in
    let walked_well = or_else-nil _ _ level in
    let settled_well = or_else-nil _ _ walked_well.1 in
    let read = read-all which ws [] None walked_well.0 settled_well.0 in
    let rows_are : matches_of command_line words ≡ finished rules (walk rules [] nothing_held ws).held =
    ap (λ (a : App). rows_after a.top.rules (names_of a) ws) app_is in
    ap (first_of (name_of which)) (rows_are ∙ finished-is (walk rules [] nothing_held ws).held) ∙ read.1
