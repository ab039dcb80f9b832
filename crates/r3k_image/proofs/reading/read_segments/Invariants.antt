use Rattle.r3k_image.specs.Segments.{views}
use Rattle.r3k_image.proofs.Loop.{Reads}
use Rattle.r3k_image.proofs.reading.read_segments.Given as goal

abbrev pub invariant-loop : goal.invariant-loop
invariant-loop l = Reads l.count l.counter l.start l.bytes l.rest (views l.segments.items)
