-- How many spans have no record that serves, and what steps that costs.
use Rattle.std.proofs.Common.{◌≡◌, inl, inr, ℕ, zero, suc, ◌+◌, ◌-◌, ◌*◌, ◌<◌, ◌≤◌, List, ◌∷◌, slice_get, take, sym, ap, ◌∙◌, subst, arith}
use Rattle.std.proofs.Math.Nat.{add-mul, mul-le-mul_right}
use Rattle.r3k_live.specs.Living.{counted}
use Rattle.span_fact.specs.Span.{Span}
use Rattle.checkpoints.specs.Kept.{AreFar}
use Rattle.present_run.specs.History.{History}
use Rattle.present_run.specs.Reuse.{HasServing, Holding, IsServing, Lacks, Serves, Turns, kept_at, put_one, span_of, stay, use_one}

-- where one serves for each, none is lacking
pub lacks_none : (pages span : ℕ) (h : Holding) (count lacking : ℕ) → ((index : ℕ) → index < count → Serves pages span h index)
    → Lacks pages span h count lacking → lacking ≡ 0
unfolding Lacks
lacks_none pages span h zero lacking all none = none
lacks_none pages span h (suc index) lacking all (inl (here, before)) =
    lacks_none pages span h index lacking (λ i below. all i (omega (arith, below))) before
lacks_none pages span h (suc index) lacking all (inr lacks) = absurd (lacks.0 (all index (omega arith)))

-- one span more
pub lacks_more : {P : Type 0} (pages span : ℕ) (h : Holding) (index lacking : ℕ) → Lacks pages span h (index + 1) lacking
    → (Serves pages span h index → Lacks pages span h index lacking → P)
    → (¬ Serves pages span h index → (before : ℕ) → lacking ≡ before + 1 → Lacks pages span h index before → P)
    → P
unfolding Lacks
lacks_more {P} pages span h index lacking lacks there absent = cases (subst (λ (n : ℕ). Lacks pages span h n lacking) (let e : index + 1 ≡ suc index = omega arith in e) lacks)
  where
    cases : Lacks pages span h (suc index) lacking → P
    cases (inl (here, before)) = there here before
    cases (inr (none, some, before)) = absent none (lacking - 1) (omega (arith, some)) before

-- at most as many of the first ones lack one
pub lacks_below : {P : Type 0} (pages span : ℕ) (h : Holding) (below more lacking : ℕ) → Lacks pages span h (below + more) lacking
    → ((fewer : ℕ) → fewer ≤ lacking → Lacks pages span h below fewer → P)
    → P
lacks_below pages span h below zero lacking lacks found =
    found lacking (omega arith) (subst (λ (n : ℕ). Lacks pages span h n lacking) (let e : below + 0 ≡ below = omega arith in e) lacks)
lacks_below pages span h below (suc more) lacking lacks found =
    lacks_more pages span h (below + more) lacking (subst (λ (n : ℕ). Lacks pages span h n lacking) (let e : below + suc more ≡ below + more + 1 = omega arith in e) lacks)
    (λ here rest. lacks_below pages span h below more lacking rest found)
    (λ absent fewer is rest. lacks_below pages span h below more fewer rest (λ n less. found n (omega (arith, less, is))))

-- and as many of all, where each of the others has one that serves
pub lacks_on : (pages span : ℕ) (h : Holding) (below more lacking : ℕ) → ((i : ℕ) → below ≤ i → i < below + more → Serves pages span h i)
    → Lacks pages span h below lacking → Lacks pages span h (below + more) lacking
unfolding Lacks
lacks_on pages span h below zero lacking serve lacks = subst (λ (n : ℕ). Lacks pages span h n lacking) (let e : below ≡ below + 0 = omega arith in e) lacks
lacks_on pages span h below (suc more) lacking serve lacks =
    subst (λ (n : ℕ). Lacks pages span h n lacking) (let e : suc (below + more) ≡ below + suc more = omega arith in e)
    (inl (serve (below + more) (omega arith) (omega arith), lacks_on pages span h below more lacking (λ i after within. serve i after (omega (arith, within))) lacks))

pub lacks_back : (pages span : ℕ) (h : Holding) (below more lacking : ℕ) → ((i : ℕ) → below ≤ i → i < below + more → Serves pages span h i)
    → Lacks pages span h (below + more) lacking → Lacks pages span h below lacking
lacks_back pages span h below zero lacking serve lacks = subst (λ (n : ℕ). Lacks pages span h n lacking) (let e : below + 0 ≡ below = omega arith in e) lacks
lacks_back pages span h below (suc more) lacking serve lacks =
    lacks_more pages span h (below + more) lacking (subst (λ (n : ℕ). Lacks pages span h n lacking) (let e : below + suc more ≡ below + more + 1 = omega arith in e) lacks)
    (λ here rest. lacks_back pages span h below more lacking (λ i after within. serve i after (omega (arith, within))) rest)
    (λ absent fewer is rest. absurd (absent (serve (below + more) (omega arith) (omega arith))))

one_more : (n span : ℕ) → (n + 1) * span ≡ n * span + span
one_more n span = add-mul n 1 span ∙ ap (λ (m : ℕ). n * span + m) (let e : 1 * span ≡ span = omega arith in e)

-- the steps that n spans cost
abbrev pub Within : (span steps lacking now : ℕ) → Type 0
Within span steps lacking now = (counted steps (lacking * span) ≤ now) × (now ≤ steps + lacking * span)

pub none_run : (span steps : ℕ) → Within span steps 0 steps
none_run span steps =
    let none : 0 * span ≡ 0 = omega arith in
    (omega (arith, none), omega (arith, none))

-- a span that was run
pub count_more : (span before lacking steps now after : ℕ) → lacking ≡ before + 1 → Within span steps before now → after ≡ counted now span
    → Within span steps lacking after
count_more span before lacking steps now after is so_far more =
    let next : lacking * span ≡ before * span + span = ap (λ (n : ℕ). n * span) is ∙ one_more before span in
    (omega (arith, so_far.0, more, next), omega (arith, so_far.1, more, next))

-- a span that was begun
pub count_most : (span before lacking steps now after : ℕ) → before + 1 ≤ lacking → now ≤ steps + before * span → after ≤ now + span
    → after ≤ steps + (lacking * span + 0)
count_most span before lacking steps now after less so_far more =
    let next : before * span + span ≤ lacking * span = subst (λ (n : ℕ). n ≤ lacking * span) (one_more before span) (mul-le-mul_right span less) in
    omega (arith, so_far, more, next)

-- a span that was not
pub count_same : (span before lacking steps now after : ℕ) → before ≤ lacking → now ≤ steps + before * span → after ≤ now
    → after ≤ steps + (lacking * span + 0)
count_same span before lacking steps now after less so_far same =
    let next : before * span ≤ lacking * span = mul-le-mul_right span less in
    omega (arith, so_far, same, next)

-- records that stay serve as before
pub serves_same : (pages span : ℕ) (mid new : Holding) (index : ℕ) → new.history ≡ mid.history → kept_at new index ≡ kept_at mid index
    → Serves pages span mid index → Serves pages span new index
serves_same pages span mid new index history same serves =
    subst (λ (row : List Span). Served new.history row) (sym same) (subst (λ (h : History). Served h (kept_at mid index)) (sym history) serves)
  where
    Served : History → List Span → Type 0
    Served h row =
        let s : Span = span_of pages span h.image h.log index in
        ¬ AreFar pages span row s.start s.events

-- an equal row
pub turned_to : (pages span : ℕ) (h : Holding) (index : ℕ) (row next : List Span) → next ≡ row → Turns pages span h index row → Turns pages span h index next
turned_to pages span h index row next same turns = subst (λ (row : List Span). Turns pages span h index row) (sym same) turns

-- what queries make of a row, and then later ones
pub turned_on : (pages span : ℕ) (old mid : Holding) (index : ℕ) (row : List Span) → mid.history ≡ old.history → mid.pasts ≡ old.pasts
    → Turns pages span old index (kept_at mid index) → Turns pages span mid index row → Turns pages span old index row
turned_on pages span old mid index _ history pasts first (stay row is) = turned_to pages span old index (kept_at mid index) row is first
turned_on pages span old mid index _ history pasts first (use_one before row turns place near is) =
    use_one before row (turned_on pages span old mid index before history pasts first turns) place
    (subst (λ (h : History). IsServing pages span h index (slice_get before place)) history near) is
turned_on pages span old mid index _ history pasts first (put_one before row turns none is) =
    put_one before row (turned_on pages span old mid index before history pasts first turns)
    (λ has. none (subst (λ (h : History). HasServing pages span h index before) (sym history) has))
    (is
    ∙ (ap (λ (h : History). span_of pages span h.image h.log index ∷ take (mid.pasts - 1) before) history
    ∙ ap (λ (n : ℕ). span_of pages span old.history.image old.history.log index ∷ take (n - 1) before) pasts))
