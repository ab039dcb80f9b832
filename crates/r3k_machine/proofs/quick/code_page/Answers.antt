use Rattle.std.proofs.Common.{sym, arith}
use Rattle.r3k_machine.proofs.Quiet.{code_at, code_in}
use Rattle.r3k_machine.proofs.quick.code_page.Goals as goal

pub returns-clause-code : goal.returns-clause-code
returns-clause-code g c =
    let stands = rw c.ram_pages.ensures at c.in_ok-place.ensures in
    let meant = c.in_ok-physical.ensures.means in record {
      within = omega arith;
      fetched = rw c.page_of.ensures
          (code_in c.args.core.now g.M.Mem.ram c.args.flow c.pc-address.result _
          (code_at c.args.core.now g.M.Mem.ram c.pc-address.result c.in_ok-place.place (record { address = c.in_ok-physical.physical; cacheable = meant.0 }) meant.1 (sym stands)));
      over_bus = c.requires.over_bus;
    }

pub fetched_at-requires : goal.fetched_at-requires
fetched_at-requires g c = record {
  over_bus = record {
    within = c.requires.over_bus.within;
    over = λ some. record { kernel = (c.requires.over_bus.over some).kernel; shared = (c.requires.over_bus.over some).shared };
  };
}
