use Rattle.std.proofs.Common.{arith, ◌≡◌, ◌<◌, ℕ, List, replicate, slice_index_or, sym, subst}
use Rattle.std.proofs.lemmas.List.{get_or-replicate}
use Rattle.std.proofs.lemmas.Result.{IfOk-weaker}
use Rattle.r3k_decode.specs.Operation.{Operation}
use Rattle.r3k_live.proofs.flat.unknown.Goals as goal

-- a list of one operation, again and again
all_same : (known : List Operation) (count : ℕ) (stop : Operation) → known ≡ replicate count stop → (i : ℕ) (d : Operation) → i < count → slice_index_or known i d ≡ stop
all_same known count stop is i d within = subst (λ (list : List Operation). slice_index_or list i d ≡ stop) (sym is) (get_or-replicate count i stop d within)

pub returns-clause-nothing : goal.returns-clause-nothing
returns-clause-nothing c =
    IfOk-weaker c.vec.result _ _ (λ v is i d within. all_same v.items 590401 c.args.stop (is (λ y same. same)) i d (omega (arith, within))) c.vec.ensures.items_if_clones_equal
