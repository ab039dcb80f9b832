use Rattle.r3k_live.specs.Living.{state_of}
use Rattle.r3k_live.proofs.Gone.{goes_for_more}
use Rattle.r3k_live.proofs.waiting.wait.Goals as goal

pub returns-clause-goes : goal.returns-clause-goes
returns-clause-goes g c =
    goes_for_more g.row.PAGES c.args.time c.args.events.now c.args.stop c.go_round-turn.result.steps c.go_round_again-again.result.steps (state_of c.args.core.now c.args.memory.now)
    (state_of c.go_round-turn.new.core c.go_round-turn.new.memory) (state_of c.go_round_again-again.new.core c.go_round_again-again.new.memory)
    c.args.recorder.now c.go_round-turn.new.recorder c.go_round_again-again.new.recorder
    c.go_round-turn.ensures.goes c.go_round_again-again.ensures.goes
    (c.go_round-turn.ensures.elsewhere c.in-Back.is)
