use Rattle.std.proofs.Common.{◌≡◌, List, [], ◌++◌, length}
use Rattle.wb_io.specs.Calls.{Call, Each, Moment, MovesSome, Reads, Writes, bytes_moved}
use Rattle.workbench.specs.Runs.{AnswersFirst, IsPiece}
use Rattle.workbench.specs.Taking.{GoesOn}
use Rattle.wb_session.specs.Session.{triple_of}
use Rattle.workbench.proofs.script.run_script.Given as goal

-- what was read so far was taken, and its replies came first
abbrev pub invariant-loop-made : goal.invariant-loop-made
invariant-loop-made g l =
    (reads writes : List Call)
    × Reads (g.R.Source.reads l.initial.reader) (g.R.Source.reads l.reader) (g.R.Source.left l.initial.reader) (g.R.Source.left l.reader) reads
    × Writes (g.W.Sink.writes l.initial.writer) (g.W.Sink.writes l.writer) (g.W.Sink.written l.initial.writer) (g.W.Sink.written l.writer) writes
    × Each IsPiece reads
    × Each MovesSome writes
    × GoesOn g.row.PAGES (triple_of l.initial.session) (bytes_moved reads) (triple_of l.session) l.line (bytes_moved writes)
    × (length reads ≡ l._made)
    × (length l.piece ≡ 4096)
    × (moments : List Moment)
    × (l.order ≡ l.initial.order ++ moments)
    × AnswersFirst g.row.PAGES (triple_of l.initial.session) (record { reads = g.R.Source.reads l.initial.reader; writes = g.W.Sink.writes l.initial.writer }) [] reads moments
