use Rattle.workbench.proofs.serving.serve.Goals as goal

pub returns : goal.returns
returns g c = let h = c.serve_in_order.ensures in (h.0, h.1, h.2, h.3, h.4, h.5)
