use Rattle.std.proofs.Common.{rules}
use Rattle.std.proofs.lemmas.Bool.Decides.{Decides-at}
use Rattle.tlb64.specs.Same.{is_same, is_same_decides}
use Rattle.tlb64.proofs.tlb.TlbPartialEq.eq.Goals as goal

pub returns-clause-equal : goal.returns-clause-equal
returns-clause-equal c =
    let a = c.args.self.now in
    let b = c.args.other.now in
    Decides-at c.eq.result (is_same a b) (search rules) (is_same_decides a b)
