-- Spans that are put, spans with no bytes that come in, and the search among the totals.
use Rattle.std.proofs.Common.{◌≡◌, ◌≢◌, ℕ, zero, suc, ◌+◌, ◌-◌, ◌<◌, ◌≤◌, Bool, true, false, cond, List, [], ◌∷◌, ◌++◌, length, map, replicate, set, take, get_or, slice_index, refl, sym, ap, ◌∙◌, arith, add-one, inl, inr, below_more}
use Rattle.std.proofs.lemmas.Bool.{cases_eq}
use Rattle.std.proofs.lemmas.List.{get_or-set_other, get_or-set_same, get_or_append_left, length-append, get_or-take, length-map, length-replicate, length-take, map-set, take-map, take_all}
use Rattle.std.proofs.lemmas.List.Sorted.{IsNonDecreasingBy-from_default}
use Rattle.std.proofs.Math.ListN.{get_or-map}
use Rattle.std.proofs.Math.Seq.{map-set_same}
use Rattle.std.specs.List.Sorted.{IsNonDecreasingBy}
use Rattle.console_index.specs.Counts.{count_at, total}
use Rattle.console_index.specs.Totals.{HasTotals, IsIndex, counts_of, totals_of}
use Rattle.console_index.specs.declared.index.TheConstants.{MAX_SPANS}
use Rattle.console_index.specs.declared.span.Span.{Span}
use Rattle.console_index.proofs.Sums.{total_next, total_rises, total_same}

abbrev pub no_span : Span
no_span = record { counts = []; totals = [] }

pub counts_at : (spans : List Span) (line k : ℕ) → count_at (counts_of spans) line k ≡ slice_index (get_or spans k no_span).counts line
counts_at spans line k = ap (λ (x : List ℕ). slice_index x line) (get_or-map (λ (span : Span). span.counts) spans k no_span)

pub totals_at : (spans : List Span) (line k : ℕ) → count_at (totals_of spans) line k ≡ slice_index (get_or spans k no_span).totals line
totals_at spans line k = ap (λ (x : List ℕ). slice_index x line) (get_or-map (λ (span : Span). span.totals) spans k no_span)

-- where one span is put, what the others have stays
pub kept : (part : Span → List ℕ) (spans : List Span) (index k line : ℕ) (span : Span) → k ≢ index → count_at (map part (set spans index span)) line k ≡ count_at (map part spans) line k
kept part spans index k line span other = rw (map-set, get_or-set_other) refl

-- the spans below one have their totals where that one or a later one is put
pub put_totals : (spans : List Span) (n index : ℕ) (span : Span) → n ≤ index → HasTotals n spans → HasTotals n (set spans index span)
put_totals spans n index span below totals = λ k within line l.
    let same = λ (m : ℕ) (before : m < k + 1). kept (λ span. span.counts) spans index m line span (omega (arith, below, within, before)) in
    let counts = total_same (counts_of (set spans index span)) (counts_of spans) line (k + 1) same in
    omega (arith, kept (λ span. span.totals) spans index k line span (omega (arith, below, within)), totals k within line l)

-- the counts stay small where small ones are put
pub put_small : (spans now : List Span) (index : ℕ) (new : List ℕ) → index < length spans
    → ((line : ℕ) → line ≤ 3 → slice_index new line ≤ 1048576) → ((k line : ℕ) → line ≤ 3 → count_at (counts_of spans) line k ≤ 1048576)
    → counts_of now ≡ set (counts_of spans) index new
    → (k line : ℕ) → line ≤ 3 → count_at (counts_of now) line k ≤ 1048576
put_small spans now index new within small old put k line l =
    let there : index < length (counts_of spans) = omega (arith, within, length-map spans (λ (span : Span). span.counts)) in
    rw put (elim (cases_eq k index) [
      | inl is ↦ rw (is, get_or-set_same (counts_of spans) index new [] there) (small line l)
      | inr other ↦ rw get_or-set_other (old k line l)
    ])

-- the next span has its totals
pub put_next : (spans : List Span) (i : ℕ) (totals : List ℕ) → i < length spans → HasTotals i spans
    → ((line : ℕ) → line ≤ 3 → slice_index totals line ≡ total (counts_of spans) line i + count_at (counts_of spans) line i)
    → HasTotals (i + 1) (set spans i (record { counts = (get_or spans i no_span).counts; totals = totals }))
put_next spans i totals within before here =
    let span : Span = record { counts = (get_or spans i no_span).counts; totals = totals } in
    below_more _ _ (put_totals spans i i span (omega arith) before) (λ line l.
    let put = totals_at (set spans i span) line i in
    let is = ap (λ (x : Span). slice_index x.totals line) (get_or-set_same spans i span no_span within) in
    let counts = ap (λ (all : List (List ℕ)). total all line (i + 1)) (map-set_same (λ (x : Span). x.counts) spans i span no_span refl) in
    omega (arith, put, is, counts, here line l, total_next (counts_of spans) line i))

-- a span with no bytes
abbrev pub empty : List ℕ → Span
empty totals = record { counts = 0 ∷ 0 ∷ 0 ∷ 0 ∷ []; totals = totals }

pub zeros : (line : ℕ) → slice_index (0 ∷ 0 ∷ 0 ∷ 0 ∷ []) line ≡ 0
zeros zero = refl
zeros (suc zero) = refl
zeros (suc (suc zero)) = refl
zeros (suc (suc (suc zero))) = refl
zeros (suc (suc (suc (suc line)))) = refl

grown_counts : (spans : List Span) (totals : List ℕ) (more line i : ℕ) → count_at (counts_of (spans ++ replicate more (empty totals))) line i ≡ count_at (counts_of spans) line i
grown_counts [] totals zero line i = refl
grown_counts [] totals (suc more) line zero = zeros line
grown_counts [] totals (suc more) line (suc i) = grown_counts [] totals more line i
grown_counts (span ∷ spans) totals more line zero = refl
grown_counts (span ∷ spans) totals more line (suc i) = grown_counts spans totals more line i

-- such spans come in after the others, unless memory is refused
pub extended : (done : Bool) (spans new : List Span) (totals : List ℕ) (summed held end : ℕ) → held ≡ length spans → held ≤ end → end ≤ MAX_SPANS
    → new ≡ cond done (take end spans ++ replicate (end - held) (empty totals)) spans
    → IsIndex summed spans → IsIndex summed new × ((i line : ℕ) → count_at (counts_of new) line i ≡ count_at (counts_of spans) line i)
extended false spans new totals summed held end long more few is index = rw is (index, λ i line. refl)
extended true spans new totals summed held end long more few is index =
    let rest = replicate (end - held) (empty totals) in
    let all = spans ++ rest in
    let size : length all ≡ length spans + (end - held) = simp (length-append, length-replicate) in
    let same = grown_counts spans totals (end - held) in
    rw (is, take_all end spans (omega arith)) (
      record {
        few = omega arith;
        small = λ k line l. omega (arith, same line k, index.small k line l);
        within = omega (arith, index.within);
        totals = λ k below line l.
            let sum = total_same (counts_of all) (counts_of spans) line (k + 1) (λ m _. same line m) in
            let at = get_or_append_left spans rest no_span k (omega (arith, index.within)) in
            omega (arith, totals_at all line k, ap (λ (span : Span). slice_index span.totals line) at, totals_at spans line k, index.totals k below line l);
      },
      λ i line. same line i,
    )

-- the first spans on their own
front_at : (part : Span → List ℕ) (spans : List Span) (n line k : ℕ) → k < n → count_at (map part (take n spans)) line k ≡ count_at (map part spans) line k
front_at part spans n line k below =
    ap (λ (x : List ℕ). slice_index x line)
    (ap (λ (all : List (List ℕ)). get_or all k []) (sym (take-map part n spans)) ∙ get_or-take n (map part spans) k [] below)

pub total_front : (spans : List Span) (n line k : ℕ) → k ≤ n → total (counts_of (take n spans)) line k ≡ total (counts_of spans) line k
total_front spans n line k below =
    total_same (counts_of (take n spans)) (counts_of spans) line k (λ m within. front_at (λ span. span.counts) spans n line m (omega (arith, below, within)))

pub front : (spans : List Span) (n : ℕ) → n ≤ length spans → HasTotals n spans → HasTotals (length (take n spans)) (take n spans)
front spans n within totals = λ k inside line l.
    let below : k < n = omega (arith, inside, length-take n spans) in
    omega (arith, front_at (λ span. span.totals) spans n line k below, total_front spans n line (k + 1) (omega (arith, below)), totals k below line l)

pub totals_rise : (spans : List Span) → HasTotals (length spans) spans → (line : ℕ) → line ≤ 3 → IsNonDecreasingBy (λ (span : Span). slice_index span.totals line) spans
totals_rise spans totals line l = IsNonDecreasingBy-from_default (λ (span : Span). slice_index span.totals line) spans no_span (λ i j up within.
    let up : i + 1 + (j - i) ≡ j + 1 = omega arith in
    let rises = rw up at (total_rises (counts_of spans) line (i + 1) (j - i)) in
    omega (arith, totals_at spans line i, totals_at spans line j, totals i (omega arith) line l, totals j within line l))

-- the spans whose totals are at most the place lie before it
pub passed : (spans : List Span) (line place n : ℕ) → line ≤ 3 → n ≤ length spans → HasTotals (length spans) spans
    → ((k : ℕ) → k < n → slice_index (get_or spans k no_span).totals line ≤ place) → total (counts_of spans) line n ≤ place
unfolding total
passed spans line place zero l within totals below = omega arith
passed spans line place (suc n) l within totals below =
    omega (arith, totals_at spans line n, below n (omega arith), rw add-one at (totals n (omega arith) line l))
