use Rattle.std.proofs.Common.{◌≡◌, ◌≤◌, ◌-◌, ◌*◌, ◌++◌, ℕ, length, Some, Ok}
use Rattle.r3k_word.specs.Layout.{place_of_word}
use Rattle.timeline.specs.History.{History}
use Rattle.wb_session.specs.Cost.{LeavesAlong}
use Rattle.wb_session.specs.Lists.{states_after, stores_before}
use Rattle.wb_session.proofs.Costs.{AskedUpTo}
use Rattle.wb_session.proofs.session.Session.last_stores.Given as goal

-- the history and the position stay, and the stores so far stand in front of those before them
abbrev pub invariant-loop : goal.invariant-loop
invariant-loop g l = record {
  same : ◌≡◌ {A = History} l.self-inside.timeline.history l.fn.self.timeline.history;
  still : l.self-inside.position ≡ l.fn.self.position;
  within : l.before ≤ l.fn.self.position;
  first : l.counter ≡ 0 → l.before ≡ l.fn.self.position;
  so_far : (place : ℕ) → place_of_word g.row.PAGES l.fn.address ≡ Some place
      → l.stores.items ++ stores_before g.row.PAGES l.fn.self.timeline.history l.fn.address place (l.fn.count - l.counter) l.before
      ≡ stores_before g.row.PAGES l.fn.self.timeline.history l.fn.address place l.fn.count l.fn.self.position;
  len : length l.stores.items ≡ l.counter;
  asked : AskedUpTo g.row.PAGES g.row.SPAN l.fn.self.position g.row.SPAN (2 * l.counter) l.fn.self.timeline l.self-inside.timeline;
  left : LeavesAlong g.row.SPAN (states_after (Ok l.stores.items)) l.fn.self.timeline.recent_states l.self-inside.timeline.recent_states;
}
