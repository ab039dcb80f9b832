use Rattle.std.proofs.Common.{◌≡◌, ◌+◌, ◌*◌, ◌^◌, ◌≤◌, Some, length}
use Rattle.wb_session.specs.Memory.{places_from}
use Rattle.wb_session.proofs.words.places_from.Given as goal

-- the places so far
abbrev pub invariant-loop-word : goal.invariant-loop-word
invariant-loop-word g l = record {
  places : places_from g.row.PAGES l.address l.word ≡ Some l.places.items;
  len : length l.places.items ≡ l.word;
  within : l.address + 4 * l.word ≤ 2 ^ 32;
}
