use Rattle.std.proofs.Common.{◌≡◌, length, take}
use Rattle.mc146818.specs.Clock.{registers}
use Rattle.mc146818.proofs.clock.Clock.values.Given as goal

-- those so far are there
abbrev pub invariant-loop-register : goal.invariant-loop-register
invariant-loop-register l = record {
  so_far : take l.register l.values ≡ take l.register (registers l.self);
  long : length l.values ≡ 64;
}
