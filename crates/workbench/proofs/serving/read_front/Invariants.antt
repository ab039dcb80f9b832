use Rattle.std.proofs.Common.{◌≡◌, ◌≤◌, ◌+◌, List, length}
use Rattle.wb_io.specs.Calls.{Call, Reads, bytes_moved}
use Rattle.workbench.specs.Runs.{max_reads}
use Rattle.workbench.specs.Serve.{AsksFor}
use Rattle.workbench.proofs.serving.read_front.Given as goal

-- the bytes so far are what was read
abbrev pub invariant-loop-piece : goal.invariant-loop-piece
invariant-loop-piece g l =
    (reads : List Call)
    × Reads (g.R.Source.reads l.initial.reader) (g.R.Source.reads l.reader) (g.R.Source.left l.initial.reader) (g.R.Source.left l.reader) reads
    × AsksFor l.size reads
    × (l.bytes.items ≡ bytes_moved reads)
    × (length (bytes_moved reads) ≤ l.size)
    × (l.reads_left + length reads ≡ max_reads)
    × (length l.piece ≡ 4096)

abbrev pub decreases-loop-piece : goal.decreases-loop-piece
decreases-loop-piece g l = l.reads_left
