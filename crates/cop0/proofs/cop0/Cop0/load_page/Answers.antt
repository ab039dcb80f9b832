use Rattle.cop0.proofs.cop0.Cop0.load_page.Goals as goal

pub returns : goal.returns
returns c = rw (← c.self.view_is) cc
