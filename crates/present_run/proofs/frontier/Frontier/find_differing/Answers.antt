use Rattle.std.proofs.Common.{◌≡◌, ◌+◌, ◌-◌, IfSome, ap, subst, arith}
use Rattle.r3k_pages.specs.Pages.{SameOutside}
use Rattle.checkpoints.specs.Kept.{first_at}
use Rattle.present_run.proofs.Known.{led}
use Rattle.present_run.proofs.frontier.Frontier.find_differing.Goals as goal

pub returns-then-leads-clause-differ : goal.returns-then-leads-clause-differ
returns-then-leads-clause-differ g c =
    let kept = c.args.kept.now in
    let n = c.valid-index.result in
    let leads = c.leads-leads.ensures c.if-leads.true in
    let known = c.requires.known (n - 1) (omega (arith, leads.0, c.valid-index.ensures)) leads.1 in
    subst (λ o. IfSome o (λ s. SameOutside c.args.self.now.differing s.start.words c.args.start.now.words))
    (ap (first_at kept.rows) (let e : n - 1 + 1 ≡ kept.valid = omega (arith, leads.0, c.valid-index.ensures) in e))
    (led g.row.PAGES g.row.SPAN c.args.self.now.differing c.args.start.now (first_at kept.rows (n - 1)) (first_at kept.rows (n - 1 + 1)) known.near leads.2)
