use Rattle.std.proofs.Common.{◌≡◌, List, ◌++◌, length}
use Rattle.wb_io.specs.Calls.{Call, Each, MovesSome, Writes, bytes_moved}
use Rattle.wb_io.proofs.whole.write_whole.Given as goal

-- what was written is what is not left
abbrev pub invariant-loop-rest : goal.invariant-loop-rest
invariant-loop-rest g l =
    (calls : List Call)
    × Writes (g.W.Sink.writes l.initial.writer) (g.W.Sink.writes l.writer) (g.W.Sink.written l.initial.writer) (g.W.Sink.written l.writer) calls
    × Each MovesSome calls
    × (l.bytes ≡ bytes_moved calls ++ l.rest)

abbrev pub decreases-loop-rest : goal.decreases-loop-rest
decreases-loop-rest g l = length l.rest
