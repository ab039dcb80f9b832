use Rattle.std.proofs.Common.{List, ◌++◌, take}
use Rattle.wb_io.specs.Calls.{Call, Each, MovesSome, Writes, bytes_moved}
use Rattle.workbench.specs.Taking.{GoesOn}
use Rattle.wb_session.specs.Session.{triple_of}
use Rattle.workbench.proofs.script.take_piece.Given as goal

-- the bytes so far were taken
abbrev pub invariant-loop-byte : goal.invariant-loop-byte
invariant-loop-byte g l =
    (calls : List Call)
    × Writes (g.W.Sink.writes l.initial.writer) (g.W.Sink.writes l.writer) (g.W.Sink.written l.initial.writer) (g.W.Sink.written l.writer) calls
    × Each MovesSome calls
    × GoesOn g.row.PAGES (triple_of l.initial.session) (l.initial.line ++ take l.byte-index l.piece) (triple_of l.session) l.line (bytes_moved calls)
