use Rattle.std.proofs.Common.{◌≡◌, drop}
use Rattle.r3k_asm.specs.Meaning.{linked}
use Rattle.r3k_asm.proofs.passes.second_pass.Given as goal

abbrev pub invariant-loop-reference : goal.invariant-loop-reference
invariant-loop-reference l = linked l.labels l.words (drop l.reference-index l.references) ≡ linked l.labels l.initial.words l.references
