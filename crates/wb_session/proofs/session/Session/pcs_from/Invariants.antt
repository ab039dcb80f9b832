use Rattle.std.proofs.Common.{◌≡◌, ◌+◌, ◌*◌, ◌∷◌, length}
use Rattle.timeline.specs.History.{History}
use Rattle.wb_session.specs.Cost.{LeavesAlong}
use Rattle.wb_session.specs.Lists.{pcs_from, positions_from}
use Rattle.wb_session.proofs.Costs.{AskedUpTo}
use Rattle.wb_session.proofs.session.Session.pcs_from.Given as goal

-- the history and the position stay, and these are the PCs of the positions so far; the last one was asked for too
abbrev pub invariant-loop : goal.invariant-loop
invariant-loop g l = record {
  same : ◌≡◌ {A = History} l.self-inside.timeline.history l.fn.self.timeline.history;
  still : l.self-inside.position ≡ l.fn.self.position;
  at : l.position ≡ l.fn.self.position + l.counter * l.fn.distance;
  so_far : l.pcs.items ≡ pcs_from g.row.PAGES l.fn.self.timeline.history l.fn.self.position l.fn.distance l.counter;
  len : length l.pcs.items ≡ l.counter;
  asked : AskedUpTo g.row.PAGES g.row.SPAN l.last g.row.SPAN (l.counter + 1) l.fn.self.timeline l.self-inside.timeline;
  left : LeavesAlong g.row.SPAN (l.last ∷ positions_from l.fn.self.position l.fn.distance l.counter) l.fn.self.timeline.recent_states l.self-inside.timeline.recent_states;
}
