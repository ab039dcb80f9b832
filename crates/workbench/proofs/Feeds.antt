-- A part of a line with one more byte.
use Rattle.std.proofs.Common.{◌≢◌, ℕ, List, [], ◌∷◌, ◌++◌}
use Rattle.std.proofs.lemmas.Bool.{ne_eqb}
use Rattle.workbench.specs.LineBuffer.{HasNoFeed}

pub no_feed_push : (bytes : List ℕ) (byte : ℕ) → HasNoFeed bytes → byte ≢ 10 → HasNoFeed (bytes ++ byte ∷ [])
no_feed_push [] byte h e = (ne_eqb byte 10 e, tt)
no_feed_push (b ∷ bytes) byte h e = (h.0, no_feed_push bytes byte h.1 e)
