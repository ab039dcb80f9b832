use Rattle.workbench.proofs.script.run.Goals as goal

pub returns : goal.returns
returns g c = let h = c.run_with.ensures in (h.0, h.1, h.2, h.3, h.4, h.5)
