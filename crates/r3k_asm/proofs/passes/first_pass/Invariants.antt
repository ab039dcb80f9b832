use Rattle.std.proofs.Common.{◌≡◌, ◌+◌, ◌≤◌, length}
use Rattle.std.specs.Str.Lines.{lines}
use Rattle.r3k_asm.specs.Source.{seen, started}
use Rattle.r3k_asm.specs.Meaning.{HasNoFaultBefore, passed}
use Rattle.r3k_asm.proofs.passes.first_pass.Given as goal

abbrev pub invariant-loop-rest : goal.invariant-loop-rest
invariant-loop-rest l = record {
  rest : passed (l.line + 1) (seen l.source) (lines l.rest) ≡ passed 1 started (lines l.text);
  asks : HasNoFaultBefore (l.line + 1) (seen l.source) (lines l.rest) → HasNoFaultBefore 1 started (lines l.text);
  count : l.line + length l.rest ≤ length l.text;
}

abbrev pub decreases-loop-rest : goal.decreases-loop-rest
decreases-loop-rest l = length l.rest
