use Rattle.std.proofs.Common.{rules}
use Rattle.std.proofs.lemmas.Bool.Decides.{Decides-at}
use Rattle.dcache.specs.Same.{is_same, is_same_decides}
use Rattle.dcache.proofs.caches.CachesPartialEq.eq.Goals as goal

pub returns-then-eq-clause-equal : goal.returns-then-eq-clause-equal
returns-then-eq-clause-equal c =
    let a = c.args.self.now in
    let b = c.args.other.now in
    Decides-at c.eq-then-eq.result (is_same a b) (search rules) (is_same_decides a b)

pub returns-else-eq-clause-equal : goal.returns-else-eq-clause-equal
returns-else-eq-clause-equal c =
    let a = c.args.self.now in
    let b = c.args.other.now in
    Decides-at c.eq.result (is_same a b) (search rules) (is_same_decides a b)
