-- The numbers, as bytes, as what the clock starts with.
use Rattle.std.proofs.Common.{sym, ◌∙◌}
use Rattle.asm_line.proofs.ClockNumbers.{clock_is}
use Rattle.asm_line.proofs.clock.clock.Goals as goal

pub returns : goal.returns
returns c =
    c.ok_or-3.ensures.value
    ∙ clock_is c.args.text.now c.in_ok-numbers.numbers c.in_ok-registers.registers c.new.result (sym c.numbers.ensures ∙ c.in_ok-numbers.ensures.ok_part)
    (sym c.bytes.ensures ∙ c.in_ok-registers.ensures.ok_part) c.new.ensures
