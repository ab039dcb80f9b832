use Rattle.std.proofs.Common.{rules, ◌≡◌}
use Rattle.tlb64.specs.Same as entries
use Rattle.dcache.specs.Same as caches
use Rattle.kn02_bus.specs.Same as bus
use Rattle.r3k_machine.specs.Same.{is_same, is_same_decides}
use Rattle.r3k_machine.specs.SameProcessor.{with_processor}
use Rattle.r3k_machine.proofs.state.Core.is_at.Goals as goal

pub returns : goal.returns
returns c =
    let core = c.args.self.now in
    let entries = entries.is_same_decides core.entries core.entries in
    let caches = caches.is_same_decides core.caches core.caches in
    let bus = bus.is_same_decides core.bus core.bus in
    let same : c.is_same_processor.result ≡ is_same core (with_processor core c.args.processor.now) = search (rules, entries, caches, bus) in
    rw same (is_same_decides core (with_processor core c.args.processor.now))
