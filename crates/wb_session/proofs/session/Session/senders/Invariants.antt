use Rattle.std.proofs.Common.{◌≡◌, ◌%◌, length}
use Rattle.r3k_machine.specs.Run.{senders_of, trace_at}
use Rattle.timeline.specs.Console.{part_of}
use Rattle.timeline.specs.History.{History}
use Rattle.wb_session.proofs.Costs.{AskedUpTo}
use Rattle.wb_session.proofs.session.Session.senders.Given as goal

-- the history and the position stay, and these are the senders of the bytes so far
abbrev pub invariant-loop-more : goal.invariant-loop-more
invariant-loop-more g l = record {
  same : ◌≡◌ {A = History} l.self-inside.timeline.history l.fn.self.timeline.history;
  still : l.self-inside.position ≡ l.fn.self.position;
  so_far : l.steps.items ≡ part_of l.fn.from l.more (senders_of l.fn.line 0 (trace_at g.row.PAGES l.fn.self.timeline.history.image l.fn.self.timeline.history.log l.fn.self.position));
  len : length l.steps.items ≡ l.more;
  asked : AskedUpTo g.row.PAGES g.row.SPAN l.fn.self.position (l.fn.self.position % g.row.SPAN) l.more l.fn.self.timeline l.self-inside.timeline;
  recent_states : l.self-inside.timeline.recent_states ≡ l.fn.self.timeline.recent_states;
}
