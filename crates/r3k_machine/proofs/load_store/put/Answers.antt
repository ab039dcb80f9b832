use Rattle.std.proofs.Common.{◌≡◌, ◌<◌, ◌/◌, ◌*◌, arith, refl}
use Rattle.std.proofs.lemmas.Bool.{lt-ltb}
use Rattle.r3k_word.specs.declared.layout.TheConstants.{PAGE_BYTES}
use Rattle.r3k_machine.proofs.load_store.put.Goals as goal

pub returns-clause-address : goal.returns-clause-address
returns-clause-address g c =
    let ram = g.M.Mem.ram in
    let below : c.args.physical < ram * PAGE_BYTES = omega (arith, c.ram_pages.ensures) in
    rw (lt-ltb c.args.physical (ram * PAGE_BYTES) below) refl

pub returns-clause-words : goal.returns-clause-words
returns-clause-words g c =
    let ram = g.M.Mem.ram in
    let below : c.args.physical < ram * PAGE_BYTES = omega (arith, c.ram_pages.ensures) in
    let place : c.args.physical / 4 * 4 / 4 ≡ c.args.physical / 4 = omega arith in
    rw (
      lt-ltb c.args.physical (ram * PAGE_BYTES) below,
      place,
      c.set_word.ensures.set,
      c.with_bytes-word.ensures,
      c.word.ensures,
    ) refl
