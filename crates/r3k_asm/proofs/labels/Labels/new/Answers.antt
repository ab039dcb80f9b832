use Rattle.r3k_asm.proofs.LabelMap.{no_labels}
use Rattle.r3k_asm.proofs.labels.Labels.new.Goals as goal

pub returns : goal.returns
returns c = no_labels c.new.result.entries c.new.ensures.empty
