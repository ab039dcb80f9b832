use Rattle.std.proofs.Common.{◌≡◌, ℕ, List, Bool, false, ◌+◌, ◌-◌, ◌≤◌, ◌<◌, ◌++◌, ◌∷◌, [], cond, filter, sym, ap, subst, ◌∙◌, arith}
use Rattle.std.specs.List.{range_with_len}
use Rattle.std.proofs.lemmas.List.{append-nil, get_or_past}
use Rattle.r3k_pages.specs.Pages.{IsPageSet, holds, page_count_of}
use Rattle.r3k_pages.proofs.Ascending.{kept_more, none_more, pages_set}
use Rattle.r3k_pages.proofs.page_marks.PageMarks.ascending.Goals as goal

pub loop-page-preserved-then-not-touches : goal.loop-page-preserved-then-not-touches
loop-page-preserved-then-not-touches g c =
    let here = c.loop-page.page in
    c.loop-page.invariant
    ∙ sym (none_more (holds c.args.self.now) here 32
    (λ k least below. c.touches.ensures c.if-not-touches.true k (omega (arith, least, below, c.if-page-eq0.true))))

pub loop-page-preserved-then-not-holds : goal.loop-page-preserved-then-not-holds
loop-page-preserved-then-not-holds g c =
    let test : ℕ → Bool = holds c.args.self.now in
    let so_far = filter test (range_with_len 0 c.loop-page.page) in
    c.loop-page.invariant
    ∙ sym (kept_more test c.loop-page.page
    ∙ (ap (λ (b : Bool). so_far ++ cond b (c.loop-page.page ∷ []) []) (sym c.holds.ensures ∙ c.if-not-holds.true) ∙ append-nil so_far))

pub loop-page-preserved : goal.loop-page-preserved
loop-page-preserved g c =
    let test : ℕ → Bool = holds c.args.self.now in
    let so_far = filter test (range_with_len 0 c.loop-page.page) in
    (c.in_ok-push.ensures {u = tt}).items
    ∙ (ap (λ (xs : List ℕ). xs ++ c.loop-page.page ∷ []) c.loop-page.invariant
    ∙ sym (kept_more test c.loop-page.page
    ∙ ap (λ (b : Bool). so_far ++ cond b (c.loop-page.page ∷ []) []) (sym c.holds.ensures ∙ c.if-not-holds.false)))

-- no page is after the last one
pub returns-clause-pages : goal.returns-clause-pages
returns-clause-pages g c =
    let test : ℕ → Bool = holds c.args.self.now in
    let count = page_count_of g.row.PAGES in
    let all : count ≤ c.loop-page.page = omega (arith, c.loop-page-test.false) in
    let none = λ (k : ℕ) (past : count ≤ k) (below : k < count + (c.loop-page.page - count)).
    sym (c.self.invariant.marked k) ∙ get_or_past c.self.inside.marks.items k false (omega (arith, c.self.invariant.long, past)) in
    c.loop-page.invariant
    ∙ (ap (λ (n : ℕ). filter test (range_with_len 0 n)) (let e : c.loop-page.page ≡ count + (c.loop-page.page - count) = omega (arith, all) in e)
    ∙ none_more test count (c.loop-page.page - count) (rw c.self.view_is at none))

pub returns-clause-set : goal.returns-clause-set
returns-clause-set g c = subst (IsPageSet g.row.PAGES) (sym (returns-clause-pages g c)) (pages_set g.row.PAGES (holds c.args.self.now))
