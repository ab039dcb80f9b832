-- The bytes before a script, as they come.
use Rattle.std.proofs.Common.{◌≡◌, ℕ, ◌-◌, min, List, [], ◌∷◌, ◌++◌, length, ap, ◌∙◌, arith, length-append}
use Rattle.wb_io.specs.Calls.{Call, MovesSome, bytes_moved, bytes_of}
use Rattle.workbench.specs.Serve.{AsksFor}

sub-append : (size : ℕ) (a b : List ℕ) → size - length (a ++ b) ≡ (size - length a) - length b
sub-append size a b = let e = length-append a b in omega (arith, e)

-- one read more
pub AsksFor-append_one : (size : ℕ) (calls : List Call) (call : Call) → AsksFor size calls → call.asked ≡ min (size - length (bytes_moved calls)) 4096 → MovesSome call → AsksFor size (calls ++ call ∷ [])
AsksFor-append_one size [] call each asked some = (asked ∙ ap (λ n. min n 4096) (let e : size - 0 ≡ size = omega arith in e), some, tt)
AsksFor-append_one size (first ∷ calls) call each asked some =
    (each.0, each.1, AsksFor-append_one (size - length (bytes_of first)) calls call each.2 (asked ∙ ap (λ n. min n 4096) (sub-append size (bytes_of first) (bytes_moved calls))) some)
