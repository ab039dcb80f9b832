use Rattle.std.proofs.Common.{◌*◌, refl, arith}
use Rattle.std.proofs.lemmas.Bool.{le-ltb}
use Rattle.r3k_word.proofs.layout.address_of.Goals as goal

pub returns-else-place-ram_words : goal.returns-else-place-ram_words
returns-else-place-ram_words c =
    rw (le-ltb c.args.place (c.args.ram_pages * 1024) (omega arith)) refl
