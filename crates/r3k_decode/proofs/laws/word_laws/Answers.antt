use Rattle.r3k_decode.proofs.Inverse.{decoded, encoded, fits}
use Rattle.r3k_decode.proofs.laws.word_laws.Goals as goal

pub returns-clause-decoded : goal.returns-clause-decoded
returns-clause-decoded c = decoded

pub returns-clause-encoded : goal.returns-clause-encoded
returns-clause-encoded c = encoded

pub returns-clause-fits : goal.returns-clause-fits
returns-clause-fits c = fits
