use Rattle.std.proofs.Common.{◌∙◌, sym, arith}
use Rattle.wb_text.specs.Number.{number_of}
use Rattle.wb_text.proofs.Numbers.{refused, in_range}
use Rattle.wb_text.proofs.command.bounded_number.Goals as goal

pub returns-in-Ok : goal.returns-in-Ok
returns-in-Ok g c =
    c.ok_or.ensures.value
    ∙ in_range g.row.LEAST g.row.MOST c.in-Ok.number (number_of c.args.word.now) c.new.result (sym c.number.ensures ∙ c.in-Ok.is) c.new.ensures

pub returns-in-Err : goal.returns-in-Err
returns-in-Err g c =
    sym (refused g.row.LEAST g.row.MOST (number_of c.args.word.now) c.in-Err.fault (omega (arith, g.MOST.fits)) (sym c.number.ensures ∙ c.in-Err.is))
