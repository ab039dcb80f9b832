use Rattle.std.proofs.Common.{◌≡◌, ℕ, List, Some, length, map, slice_index}
use Rattle.r3k_machine.specs.Run.{state_at}
use Rattle.timeline.specs.History.{History}
use Rattle.wb_session.specs.Memory.{places_from}
use Rattle.wb_session.proofs.Costs.{AskedSo}
use Rattle.wb_session.proofs.session.Session.words.Given as goal

-- the history and the position stay, and these are the words at the places so far
abbrev pub invariant-loop-word : goal.invariant-loop-word
invariant-loop-word g l = record {
  same : ◌≡◌ {A = History} l.self-inside.timeline.history l.fn.self.timeline.history;
  still : l.self-inside.position ≡ l.fn.self.position;
  so_far : (places : List ℕ) × (places_from g.row.PAGES l.fn.address l.word ≡ Some places)
      × (l.words.items ≡ map (slice_index (state_at g.row.PAGES l.fn.self.timeline.history.image l.fn.self.timeline.history.log l.fn.self.position).words) places);
  len : length l.words.items ≡ l.word;
  asked : AskedSo g.row.PAGES g.row.SPAN l.fn.self.position l.word l.fn.self.timeline l.self-inside.timeline;
}
