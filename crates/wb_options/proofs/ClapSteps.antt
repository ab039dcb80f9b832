-- What clap makes of one word of the line.
use Rattle.std.proofs.Common.{◌≡◌, ◌⊎◌, ◌∙◌, ◌==◌, ap, refl, sym, inl, inr, ℕ, Bool, true, false, List, [], ◌∷◌, Option, Some, None, codes, bytes_eq, slice_get, encode_utf8, drop, length}
use Rattle.clap.proofs.WalkLemmas.{bundle_ends}
use Rattle.std.specs.Str.{chars}
use Rattle.std.proofs.lemmas.Str.{chars-nil}
use Rattle.clap.specs.Lexer.{long_of, short_of}
use Rattle.std.proofs.lemmas.Slice.Eq.{bytes_eq-Decides}
use Rattle.clap.specs.Words.{Kinds, Row, Text}
use Rattle.clap.specs.Walk.{arg_by_short, bundle, has_row, plain, reacted, Held, Waiting, idle, option, arg_by_long, walked, settled, used}
use Rattle.clap.specs.Faults.{long_fault, option_fault, react_fault, short_fault, bundle_fault, flags_fault, settle_fault, turn_fault, use_fault}
use Rattle.clap.specs.Kinds.{or_else}
use Rattle.clap.specs.declared.error.kind.ErrorKind.TheVariants.{DisplayHelp, TooManyValues, UnknownArgument}
use Rattle.wb_options.proofs.ClapRules.{Choice, OfKind, OfSize, OfLog, kind_filled, size_filled, log_filled, help_filled, rules, shape, name_of, filled, IsLong, by_long, or_else-nil, hold, at, use-once, use-none}

-- ---- one word

-- after `--` no word is an option
pub turn-trailing : (h : Held) (waiting : Waiting) (word : Text) → turn_fault shape [] (at h waiting true) word ≡ [] → ⊥
turn-trailing h waiting word e =
    let bad : ◌≡◌ {A = Kinds} (UnknownArgument ∷ []) [] = e in
    cc

pub turn-dashes : (h : Held) → walked rules [] (at h idle false) (45 ∷ 45 ∷ []) ≡ at h idle true
unfolding walked
turn-dashes h = refl

pub wait-dashes : (h : Held) (id : Text) → walked rules [] (at h (option id) false) (45 ∷ 45 ∷ []) ≡ at h (option id) true
unfolding walked
wait-dashes h id = refl

-- a word that is no flag needs an option that waits
turn-plain : (h : Held) (word : Text) → bytes_eq word (45 ∷ 45 ∷ []) ≡ false → long_of word ≡ None → short_of word ≡ None
    → turn_fault shape [] (at h idle false) word ≡ [] → ⊥
turn-plain h word d l s e =
    let bad : ◌≡◌ {A = Kinds} (UnknownArgument ∷ []) [] = rw (d, l, s) at e in
    cc

wait-plain : (rows : List Row) (b : Choice) (word : Text) → bytes_eq word (45 ∷ 45 ∷ []) ≡ false → long_of word ≡ None → short_of word ≡ None
    → walked rules [] (at (hold rows (Some (name_of b, []))) (option (name_of b)) false) word ≡ at (hold rows (Some (name_of b, word ∷ []))) idle false
unfolding walked
wait-plain rows OfKind word d l s = rw (d, l, s) refl
wait-plain rows OfSize word d l s = rw (d, l, s) refl
wait-plain rows OfLog word d l s = rw (d, l, s) refl

-- a short flag is refused: there is none but the one for help
no_short : (c : ℕ) (rest : Text) (h : Held) (next : Held → Kinds) → short_fault rules false (arg_by_short rules c) rest h next ≡ [] → ⊥
no_short c rest h next e = go (104 == c) refl
  where
    go : (d : Bool) → (104 == c) ≡ d → ⊥
    go true k =
        let f : or_else (react_fault rules false help_filled [] h) (next (reacted rules help_filled [] h)) ≡ [] = rw k at e in
        let asked : react_fault rules false help_filled [] h ≡ [] =
        (or_else-nil (react_fault rules false help_filled [] h) (next (reacted rules help_filled [] h)) f).0 in
        let bad : ◌≡◌ {A = Kinds} (DisplayHelp ∷ []) [] = (or_else-nil (settle_fault rules false h) (DisplayHelp ∷ []) asked).1 in
        cc
    go false k =
        let bad : ◌≡◌ {A = Kinds} (UnknownArgument ∷ []) [] = rw k at e in
        cc

bundle_refused : (rows : List Row) (pending : Option (Text × List Text)) (x : ℕ) (xs : Text) (c : ℕ) → slice_get (chars (x ∷ xs)) 0 ≡ Some c
    → bundle_fault rules false (x ∷ xs) (hold rows pending) ≡ [] → ⊥
unfolding flags_fault
bundle_refused rows pending x xs c first e =
    no_short c (drop (length (encode_utf8 c)) (x ∷ xs)) (hold rows pending) (flags_fault rules false (length xs) (drop (length (encode_utf8 c)) (x ∷ xs)) 0) (rw first at e)

-- a word of no characters is no flag
bundle_plain : (rows : List Row) (pending : Option (Text × List Text)) (flags : Text) → slice_get (chars flags) 0 ≡ None
    → bundle rules flags (hold rows pending) ≡ (hold rows pending, plain)
bundle_plain rows pending flags none = sym (bundle_ends rules (length flags) flags 0 plain (hold rows pending) (sym none))

-- help's flag is always a fault, and so is a name that no option has
no_help : (v : Option Text) (h : Held) → long_fault rules false (Some help_filled) v h ≡ [] → ⊥
no_help (Some x) h e =
    let bad : ◌≡◌ {A = Kinds} (TooManyValues ∷ []) [] = e in
    cc
no_help None h e =
    let bad : ◌≡◌ {A = Kinds} (DisplayHelp ∷ []) [] = (or_else-nil (settle_fault rules false h) (DisplayHelp ∷ []) e).1 in
    cc

no_name : (v : Option Text) (h : Held) → long_fault rules false None v h ≡ [] → ⊥
no_name v h e =
    let bad : ◌≡◌ {A = Kinds} (UnknownArgument ∷ []) [] = e in
    cc

option-found : (b : Choice) (v : Option Text) (h : Held) → long_fault rules false (Some (filled b)) v h ≡ option_fault rules false (filled b) v h
option-found OfKind v h = refl
option-found OfSize v h = refl
option-found OfLog v h = refl

-- the rows once the waiting option is used
abbrev pub settled_held : List Row → Option (Text × List Text) → List Row
settled_held rows pending = (settled rules (hold rows pending)).rows

-- the walk after a word of the option
abbrev pub NextIs : List Row → Option (Text × List Text) → Text → Choice → Option Text → Type 0
NextIs rows pending word b (Some x) =
    (has_row (name_of b) (settled_held rows pending) ≡ false)
    × (walked rules [] (at (hold rows pending) idle false) word
    ≡ at (hold (used (filled b) (x ∷ []) (settled_held rows pending)) None) idle false)
NextIs rows pending word b None =
    walked rules [] (at (hold rows pending) idle false) word
    ≡ at (hold (settled_held rows pending) (Some (name_of b, []))) (option (name_of b)) false

-- a word that passes where no value is awaited: `--`, or one of an option
abbrev pub IdleStep : List Row → Option (Text × List Text) → Text → Type 0
IdleStep rows pending word = (word ≡ 45 ∷ 45 ∷ [])
    ⊎ ((b : Choice) × (v : Option Text) × (long_of word ≡ Some (name_of b, v))
    × (settle_fault rules false (hold rows pending) ≡ []) × NextIs rows pending word b v)

idle-option : (rows : List Row) (pending : Option (Text × List Text)) (word : Text) (b : Choice) (n : Text) (v : Option Text)
    → bytes_eq word (45 ∷ 45 ∷ []) ≡ false → long_of word ≡ Some (n, v) → n ≡ name_of b → arg_by_long rules n ≡ Some (filled b)
    → option_fault rules false (filled b) v (hold rows pending) ≡ []
    → (settle_fault rules false (hold rows pending) ≡ []) × NextIs rows pending word b v
unfolding walked
idle-option rows pending word OfKind n (Some x) d l is found e =
    let f = or_else-nil (settle_fault rules false (hold rows pending)) (use_fault false kind_filled (x ∷ []) (settled_held rows pending)) e in
    (f.0, (use-once OfKind x (settled_held rows pending) f.1, rw (d, l, found) refl))
idle-option rows pending word OfSize n (Some x) d l is found e =
    let f = or_else-nil (settle_fault rules false (hold rows pending)) (use_fault false size_filled (x ∷ []) (settled_held rows pending)) e in
    (f.0, (use-once OfSize x (settled_held rows pending) f.1, rw (d, l, found) refl))
idle-option rows pending word OfLog n (Some x) d l is found e =
    let f = or_else-nil (settle_fault rules false (hold rows pending)) (use_fault false log_filled (x ∷ []) (settled_held rows pending)) e in
    (f.0, (use-once OfLog x (settled_held rows pending) f.1, rw (d, l, found) refl))
idle-option rows pending word OfKind n None d l is found e = (e, rw (d, l, found) refl)
idle-option rows pending word OfSize n None d l is found e = (e, rw (d, l, found) refl)
idle-option rows pending word OfLog n None d l is found e = (e, rw (d, l, found) refl)

-- a word of a bundle is refused, where no value is awaited
bundle-idle : (rows : List Row) (pending : Option (Text × List Text)) (word flags : Text) → bytes_eq word (45 ∷ 45 ∷ []) ≡ false → long_of word ≡ None
    → short_of word ≡ Some flags → turn_fault shape [] (at (hold rows pending) idle false) word ≡ [] → ⊥
bundle-idle rows pending word flags d l s e = go flags s (slice_get (chars flags) 0) refl
  where
    go : (t : Text) → short_of word ≡ Some t → (o : Option ℕ) → slice_get (chars t) 0 ≡ o → ⊥
    go t f None none =
        let bad : ◌≡◌ {A = Kinds} (UnknownArgument ∷ []) [] =
        (or_else-nil (bundle_fault rules false t (hold rows pending)) (UnknownArgument ∷ []) (rw (d, l, f, bundle_plain rows pending t none) at e)).1 in
        cc
    go [] f (Some c) some =
        let bad : ◌≡◌ {A = Option ℕ} None (Some c) = rw chars-nil at some in
        cc
    go (x ∷ xs) f (Some c) some =
        bundle_refused rows pending x xs c some (or_else-nil _ _ (rw (d, l, f) at e)).0

pub idle-step : (rows : List Row) (pending : Option (Text × List Text)) (word : Text) → turn_fault shape [] (at (hold rows pending) idle false) word ≡ []
    → IdleStep rows pending word
idle-step rows pending word e = go (bytes_eq word (45 ∷ 45 ∷ [])) refl (long_of word) refl (short_of word) refl
  where
    named : (n : Text) (v : Option Text) → bytes_eq word (45 ∷ 45 ∷ []) ≡ false → long_of word ≡ Some (n, v)
        → long_fault rules false (arg_by_long rules n) v (hold rows pending) ≡ [] → IsLong n → IdleStep rows pending word
    named n v d l f (inl (b, is, found)) =
        let g : option_fault rules false (filled b) v (hold rows pending) ≡ [] = sym (option-found b v (hold rows pending)) ∙ (rw found at f) in
        let next = idle-option rows pending word b n v d l is found g in
        inr (b, v, l ∙ ap (λ m. Some (m, v)) is, next.0, next.1)
    named n v d l f (inr (inl found)) = absurd (no_help v (hold rows pending) (rw found at f))
    named n v d l f (inr (inr found)) = absurd (no_name v (hold rows pending) (rw found at f))

    go : (t : Bool) → bytes_eq word (45 ∷ 45 ∷ []) ≡ t → (o : Option (Text × Option Text)) → long_of word ≡ o
        → (s : Option Text) → short_of word ≡ s → IdleStep rows pending word
    go true d o l s f = inl ((bytes_eq-Decides word (45 ∷ 45 ∷ [])).0 d)
    go false d (Some p) l s f = named p.0 p.1 d l (or_else-nil _ _ (rw (d, l) at e)).0 (by_long p.0)
    go false d None l (Some flags) f = absurd (bundle-idle rows pending word flags d l f e)
    go false d None l None f = absurd (turn-plain (hold rows pending) word d l f e)

-- a word that passes where an option awaits its value: `--`, or the value
abbrev pub WaitStep : List Row → Choice → Text → Type 0
WaitStep rows b word = (word ≡ 45 ∷ 45 ∷ [])
    ⊎ ((long_of word ≡ None) × (walked rules [] (at (hold rows (Some (name_of b, []))) (option (name_of b)) false) word
    ≡ at (hold rows (Some (name_of b, word ∷ []))) idle false))

wait-short : (rows : List Row) (b : Choice) (word flags : Text) → bytes_eq word (45 ∷ 45 ∷ []) ≡ false → long_of word ≡ None → short_of word ≡ Some flags
    → slice_get (chars flags) 0 ≡ None
    → walked rules [] (at (hold rows (Some (name_of b, []))) (option (name_of b)) false) word ≡ at (hold rows (Some (name_of b, word ∷ []))) idle false
unfolding walked
wait-short rows OfKind word flags d l s none = rw (d, l, s, bundle_plain rows (Some (codes "kind", [])) flags none) refl
wait-short rows OfSize word flags d l s none = rw (d, l, s, bundle_plain rows (Some (codes "size", [])) flags none) refl
wait-short rows OfLog word flags d l s none = rw (d, l, s, bundle_plain rows (Some (codes "log", [])) flags none) refl

pub wait-step : (rows : List Row) (b : Choice) (word : Text) → turn_fault shape [] (at (hold rows (Some (name_of b, []))) (option (name_of b)) false) word ≡ []
    → WaitStep rows b word
wait-step rows b word e = go (bytes_eq word (45 ∷ 45 ∷ [])) refl (long_of word) refl (short_of word) refl
  where
    h : Held
    h = hold rows (Some (name_of b, []))

    opened : (c : Choice) (v : Option Text) → option_fault rules false (filled c) v (hold rows (Some (name_of b, []))) ≡ [] → ⊥
    opened c (Some x) f = use-none b rows (or_else-nil (settle_fault rules false (hold rows (Some (name_of b, [])))) _ f).0
    opened c None f = use-none b rows f

    named : (n : Text) (v : Option Text) → long_fault rules false (arg_by_long rules n) v (hold rows (Some (name_of b, []))) ≡ [] → IsLong n → ⊥
    named n v f (inl (c, is, found)) = opened c v (sym (option-found c v (hold rows (Some (name_of b, [])))) ∙ (rw found at f))
    named n v f (inr (inl found)) = no_help v (hold rows (Some (name_of b, []))) (rw found at f)
    named n v f (inr (inr found)) = no_name v (hold rows (Some (name_of b, []))) (rw found at f)

    bundled : (t : Text) → bytes_eq word (45 ∷ 45 ∷ []) ≡ false → long_of word ≡ None → short_of word ≡ Some t
        → (o : Option ℕ) → slice_get (chars t) 0 ≡ o → WaitStep rows b word
    bundled t d l f None none = inr (l, wait-short rows b word t d l f none)
    bundled [] d l f (Some c) some =
        let bad : ◌≡◌ {A = Option ℕ} None (Some c) = rw chars-nil at some in
        absurd (cc)
    bundled (x ∷ xs) d l f (Some c) some =
        absurd (bundle_refused rows (Some (name_of b, [])) x xs c some (or_else-nil _ _ (rw (d, l, f) at e)).0)

    go : (t : Bool) → bytes_eq word (45 ∷ 45 ∷ []) ≡ t → (o : Option (Text × Option Text)) → long_of word ≡ o
        → (s : Option Text) → short_of word ≡ s → WaitStep rows b word
    go true d o l s f = inl ((bytes_eq-Decides word (45 ∷ 45 ∷ [])).0 d)
    go false d (Some p) l s f = absurd (named p.0 p.1 (or_else-nil _ _ (rw (d, l) at e)).0 (by_long p.0))
    go false d None l (Some flags) f = bundled flags d l f (slice_get (chars flags) 0) refl
    go false d None l None f = inr (l, wait-plain rows b word d l f)
