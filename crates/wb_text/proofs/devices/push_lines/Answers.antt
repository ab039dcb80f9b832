-- One line more, and then none.
use Rattle.std.proofs.Common.{arith, ap, rules, sym, ◌∙◌, ◌++◌, append-nil}
use Rattle.wb_text.specs.Devices.{line_text}
use Rattle.wb_text.proofs.Shown.{numbered-end, numbered-on}
use Rattle.wb_text.proofs.devices.push_lines.Goals as goal

pub loop-line-preserved : goal.loop-line-preserved
loop-line-preserved c = record {
  items =
      rw c.push_line.ensures.items
      (numbered-on line_text c.loop-line.number c.args.lines.now c.loop-line.line-index c.loop-line.text.items _ _ (omega arith) (search rules) c.loop-line.invariant.items);
  room = omega arith;
}

pub returns-clause-items : goal.returns-clause-items
returns-clause-items c =
    let shown = c.loop-line.text.items in
    let none = numbered-end line_text c.loop-line.number c.args.lines.now c.loop-line.line-index (omega arith) in
    sym (append-nil shown) ∙ (ap (λ t. shown ++ t) (sym none) ∙ c.loop-line.invariant.items)
