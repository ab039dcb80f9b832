use Rattle.std.proofs.Common.{◌≡◌, ◌++◌, List}
use Rattle.r3k_machine.specs.declared.step.Done.{Done}
use Rattle.r3k_live.specs.Marks.{registers_below}
use Rattle.r3k_live.specs.Record.{AreDestinations}
use Rattle.r3k_live.proofs.destinations.Destinations.add_marks.Given as goal

-- the marks of the registers so far
abbrev pub invariant-loop-register : goal.invariant-loop-register
invariant-loop-register l =
    (steps : List Done) → AreDestinations steps l.self → l.marks.items ≡ l.fn.marks.items ++ registers_below steps l.register
