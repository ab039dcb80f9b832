-- The line's three options as clap's rules, and one use of them.
use Rattle.std.proofs.Common.{◌≡◌, ◌⊎◌, ◌∙◌, ap, refl, sym, inl, inr, Bool, true, false, List, [], ◌∷◌, Option, Some, None, codes, bytes_eq}
use Rattle.std.proofs.lemmas.Slice.Eq.{bytes_eq-Decides}
use Rattle.clap.specs.Words.{Kinds, Row, Rule, Text, first_of}
use Rattle.clap.specs.Simple.{Shape}
use Rattle.clap.specs.Walk.{has_row, without, with_values, Held, Walk, Waiting, arg_by_long, walked, used}
use Rattle.clap.specs.Simple.{help_rule, new_shape}
use Rattle.clap.specs.Faults.{settle_fault, turn_fault, use_fault, walk_fault}
use Rattle.clap.specs.Kinds.{or_else}
use Rattle.clap.specs.declared.error.kind.ErrorKind.TheVariants.{ArgumentConflict, InvalidValue}
use Rattle.clap.specs.declared.builder.action.ArgAction.TheVariants.{Set}
use Rattle.clap.specs.declared.builder.value_parser.ValueParser.TheVariants as vp
use Rattle.clap.specs.declared.builder.value_parser.Reading.{Reading}
use Rattle.clap.specs.declared.builder.value_parser.Reading.TheVariants.{AsWritten}
use Rattle.clap.specs.declared.parser.matches.ValueSource.{ValueSource}
use Rattle.clap.specs.declared.parser.matches.ValueSource.TheVariants.{CommandLine}
use Rattle.wb_options.specs.Options.{option_rule}

-- the rules as clap fills them in
abbrev pub kind_filled : Rule
kind_filled = record (option_rule (codes "kind")) {
  action = Some Set;
  parser = Some vp.String;
  range = Some (record { start_inclusive = 1; end_inclusive = 1 });
}

abbrev pub size_filled : Rule
size_filled = record (option_rule (codes "size")) {
  action = Some Set;
  parser = Some vp.String;
  range = Some (record { start_inclusive = 1; end_inclusive = 1 });
}

abbrev pub log_filled : Rule
log_filled = record (option_rule (codes "log")) {
  action = Some Set;
  parser = Some vp.String;
  range = Some (record { start_inclusive = 1; end_inclusive = 1 });
}

abbrev pub help_filled : Rule
help_filled = record help_rule {
  parser = Some vp.String;
  range = Some (record { start_inclusive = 0; end_inclusive = 0 });
}

abbrev pub rules : List Rule
rules = kind_filled ∷ size_filled ∷ log_filled ∷ help_filled ∷ []

abbrev pub shape : Shape
shape = record (new_shape (codes "r3kwb")) {
  rules = rules;
  disable_help_subcommand = true;
  is_built = true;
}

-- the three options: the kind, the size, and the log's size
pub data Choice : Type 0 where
  OfKind : Choice
  OfSize : Choice
  OfLog : Choice

abbrev pub name_of : Choice → Text
name_of OfKind = codes "kind"
name_of OfSize = codes "size"
name_of OfLog = codes "log"

abbrev pub filled : Choice → Rule
filled OfKind = kind_filled
filled OfSize = size_filled
filled OfLog = log_filled

-- a long name is an option's, or help's, or none
abbrev pub IsLong : Text → Type 0
IsLong n = ((b : Choice) × (n ≡ name_of b) × (arg_by_long rules n ≡ Some (filled b)))
    ⊎ ((arg_by_long rules n ≡ Some help_filled) ⊎ (arg_by_long rules n ≡ None))

pub by_long : (n : Text) → IsLong n
by_long n = go (bytes_eq (codes "kind") n) refl (bytes_eq (codes "size") n) refl (bytes_eq (codes "log") n) refl (bytes_eq (codes "help") n) refl
  where
    go : (k : Bool) → bytes_eq (codes "kind") n ≡ k → (s : Bool) → bytes_eq (codes "size") n ≡ s → (l : Bool) → bytes_eq (codes "log") n ≡ l
        → (h : Bool) → bytes_eq (codes "help") n ≡ h → IsLong n
    go true ek s es l el h eh = inl (OfKind, sym ((bytes_eq-Decides (codes "kind") n).0 ek), rw ek refl)
    go false ek true es l el h eh = inl (OfSize, sym ((bytes_eq-Decides (codes "size") n).0 es), rw (ek, es) refl)
    go false ek false es true el h eh = inl (OfLog, sym ((bytes_eq-Decides (codes "log") n).0 el), rw (ek, es, el) refl)
    go false ek false es false el true eh = inr (inl (rw (ek, es, el, eh) refl))
    go false ek false es false el false eh = inr (inr (rw (ek, es, el, eh) refl))

same_bytes : (t : Text) → bytes_eq t t ≡ true
same_bytes t = (bytes_eq-Decides t t).1 refl

-- where no row has the id, the new row has the first value
first-with_values : (id v : Text) (how : Reading) (s : ValueSource) (rows : List Row) → has_row id rows ≡ false
    → first_of id (with_values id how s (v ∷ []) rows) ≡ Some v
first-with_values id v how s [] none = rw (same_bytes id) refl
first-with_values id v how s (r ∷ rs) none =
    go (bytes_eq r.id id) refl (λ h. first-with_values id v how s rs h)
  where
    go : (b : Bool) → bytes_eq r.id id ≡ b
        → (has_row id rs ≡ false → first_of id (with_values id how s (v ∷ []) rs) ≡ Some v)
        → first_of id (with_values id how s (v ∷ []) (r ∷ rs)) ≡ Some v
    go true e rec =
        let bad : true ≡ false = rw e at none in
        cc
    go false e rec =
        let rest : has_row id rs ≡ false = rw e at none in
        rw (e, e) (rec rest)

-- a row of one id leaves the first value of another id
first-with_values_other : (id other : Text) (how : Reading) (s : ValueSource) (values : List Text) (rows : List Row) → bytes_eq id other ≡ false
    → first_of other (with_values id how s values rows) ≡ first_of other rows
first-with_values_other id other how s values [] apart = rw apart refl
first-with_values_other id other how s values (r ∷ rs) apart =
    go (bytes_eq r.id id) refl (bytes_eq r.id other) refl (first-with_values_other id other how s values rs apart)
  where
    go : (b : Bool) → bytes_eq r.id id ≡ b → (d : Bool) → bytes_eq r.id other ≡ d
        → first_of other (with_values id how s values rs) ≡ first_of other rs
        → first_of other (with_values id how s values (r ∷ rs)) ≡ first_of other (r ∷ rs)
    go true e true f rec =
        let same : r.id ≡ id = (bytes_eq-Decides r.id id).0 e in
        let bad : true ≡ false = sym f ∙ ap (λ t. bytes_eq t other) same ∙ apart in
        cc
    go true e false f rec = rw (e, f) refl
    go false e true f rec = rw (e, f) refl
    go false e false f rec = rw (e, f) rec

pub no_first : (id : Text) (rows : List Row) → has_row id rows ≡ false → first_of id rows ≡ None
no_first id [] none = refl
no_first id (r ∷ rs) none = go (bytes_eq r.id id) refl (λ h. no_first id rs h)
  where
    go : (b : Bool) → bytes_eq r.id id ≡ b → (has_row id rs ≡ false → first_of id rs ≡ None) → first_of id (r ∷ rs) ≡ None
    go true e rec =
        let bad : true ≡ false = rw e at none in
        cc
    go false e rec =
        let rest : has_row id rs ≡ false = rw e at none in
        rw e (rec rest)

pub or_else-nil : (a b : Kinds) → or_else a b ≡ [] → (a ≡ []) × (b ≡ [])
or_else-nil [] b e = (refl, e)
or_else-nil (k ∷ ks) b e =
    let bad : ◌≡◌ {A = Kinds} (k ∷ ks) [] = e in
    cc

-- what is held between two words, where no flag of a bundle is passed over
abbrev pub hold : List Row → Option (Text × List Text) → Held
hold rows pending = record { rows = rows; pending = pending; skip = 0 }

-- the walk between two words
abbrev pub at : Held → Waiting → Bool → Walk
at h waiting trailing =
    record { held = h; waiting = waiting; position = 1; is_trailing = trailing; stopped = None }

pub walk-parts : (w : Walk) (word : Text) (rest : List Text) → walk_fault shape [] w (word ∷ rest) ≡ []
    → (turn_fault shape [] w word ≡ []) × (walk_fault shape [] (walked rules [] w word) rest ≡ [])
unfolding walk_fault
walk-parts w word rest f = or_else-nil (turn_fault shape [] w word) (walk_fault shape [] (walked rules [] w word) rest) f

-- ---- one use of an option

-- a use with one value comes first
pub use-once : (b : Choice) (x : Text) (rows : List Row) → use_fault false (filled b) (x ∷ []) rows ≡ [] → has_row (name_of b) rows ≡ false
use-once OfKind x rows e = go (has_row (codes "kind") rows) refl
  where
    go : (d : Bool) → has_row (codes "kind") rows ≡ d → has_row (codes "kind") rows ≡ false
    go true h =
        let bad : ◌≡◌ {A = Kinds} (ArgumentConflict ∷ []) [] = rw h at e in
        cc
    go false h = h
use-once OfSize x rows e = go (has_row (codes "size") rows) refl
  where
    go : (d : Bool) → has_row (codes "size") rows ≡ d → has_row (codes "size") rows ≡ false
    go true h =
        let bad : ◌≡◌ {A = Kinds} (ArgumentConflict ∷ []) [] = rw h at e in
        cc
    go false h = h
use-once OfLog x rows e = go (has_row (codes "log") rows) refl
  where
    go : (d : Bool) → has_row (codes "log") rows ≡ d → has_row (codes "log") rows ≡ false
    go true h =
        let bad : ◌≡◌ {A = Kinds} (ArgumentConflict ∷ []) [] = rw h at e in
        cc
    go false h = h

-- and no use is without a value
pub use-none : (b : Choice) (rows : List Row) → settle_fault rules false (hold rows (Some (name_of b, []))) ≡ [] → ⊥
use-none OfKind rows e =
    let bad : ◌≡◌ {A = Kinds} (InvalidValue ∷ []) [] = e in
    cc
use-none OfSize rows e =
    let bad : ◌≡◌ {A = Kinds} (InvalidValue ∷ []) [] = e in
    cc
use-none OfLog rows e =
    let bad : ◌≡◌ {A = Kinds} (InvalidValue ∷ []) [] = e in
    cc

-- the row of an unused option is not there to be replaced
without-none : (id : Text) (rows : List Row) → has_row id rows ≡ false → without id rows ≡ rows
without-none id [] none = refl
without-none id (r ∷ rs) none = go (bytes_eq r.id id) refl (λ h. without-none id rs h)
  where
    go : (b : Bool) → bytes_eq r.id id ≡ b → (has_row id rs ≡ false → without id rs ≡ rs) → without id (r ∷ rs) ≡ r ∷ rs
    go true e rec =
        let bad : true ≡ false = rw e at none in
        cc
    go false e rec =
        let rest : has_row id rs ≡ false = rw e at none in
        rw e (ap (λ xs. r ∷ xs) (rec rest))

used-is : (b : Choice) (x : Text) (rows : List Row) → has_row (name_of b) rows ≡ false
    → used (filled b) (x ∷ []) rows ≡ with_values (name_of b) AsWritten CommandLine (x ∷ []) rows
used-is OfKind x rows none = ap (with_values (codes "kind") AsWritten CommandLine (x ∷ [])) (without-none (codes "kind") rows none)
used-is OfSize x rows none = ap (with_values (codes "size") AsWritten CommandLine (x ∷ [])) (without-none (codes "size") rows none)
used-is OfLog x rows none = ap (with_values (codes "log") AsWritten CommandLine (x ∷ [])) (without-none (codes "log") rows none)

-- the first value of an option after a use of one
abbrev pub after_use : Choice → Choice → Text → Option Text → Option Text
after_use OfKind OfKind x before = Some x
after_use OfSize OfSize x before = Some x
after_use OfLog OfLog x before = Some x
after_use b which x before = before

used_other : (b which : Choice) (x : Text) (rows : List Row) → bytes_eq (name_of b) (name_of which) ≡ false → has_row (name_of b) rows ≡ false
    → first_of (name_of which) (used (filled b) (x ∷ []) rows) ≡ first_of (name_of which) rows
used_other b which x rows apart none =
    rw (used-is b x rows none) (first-with_values_other (name_of b) (name_of which) AsWritten CommandLine (x ∷ []) rows apart)

used_same : (b : Choice) (x : Text) (rows : List Row) → has_row (name_of b) rows ≡ false
    → first_of (name_of b) (used (filled b) (x ∷ []) rows) ≡ Some x
used_same b x rows none = rw (used-is b x rows none) (first-with_values (name_of b) x AsWritten CommandLine rows none)

pub first-used : (b which : Choice) (x : Text) (rows : List Row) → has_row (name_of b) rows ≡ false
    → first_of (name_of which) (used (filled b) (x ∷ []) rows) ≡ after_use b which x (first_of (name_of which) rows)
first-used OfKind OfKind x rows none = used_same OfKind x rows none
first-used OfKind OfSize x rows none = used_other OfKind OfSize x rows refl none
first-used OfKind OfLog x rows none = used_other OfKind OfLog x rows refl none
first-used OfSize OfKind x rows none = used_other OfSize OfKind x rows refl none
first-used OfSize OfSize x rows none = used_same OfSize x rows none
first-used OfSize OfLog x rows none = used_other OfSize OfLog x rows refl none
first-used OfLog OfKind x rows none = used_other OfLog OfKind x rows refl none
first-used OfLog OfSize x rows none = used_other OfLog OfSize x rows refl none
first-used OfLog OfLog x rows none = used_same OfLog x rows none
