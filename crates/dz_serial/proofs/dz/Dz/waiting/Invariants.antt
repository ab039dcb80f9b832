use Rattle.std.proofs.Common.{◌≡◌, map, take}
use Rattle.dz_serial.specs.Reads.{character_word}
use Rattle.dz_serial.proofs.dz.Dz.waiting.Given as goal

-- the words of the characters so far
abbrev pub invariant-loop-character : goal.invariant-loop-character
invariant-loop-character l = record {
  words : l.words.items ≡ map character_word (take l.character-index l.self.silo);
  items : l.character-items ≡ l.self.silo;
}
