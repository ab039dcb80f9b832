use Rattle.std.proofs.Common.{◌≡◌, ◌+◌, [], sym, ap, ◌∙◌, arith}
use Rattle.input_log.specs.Log.{window_of, later_than}
use Rattle.input_log.proofs.Window.{narrowed, later, none_taken, all_left}
use Rattle.input_log.proofs.cursor.Cursor.next.Goals as goal

pub returns-then-time-self-clause-events : goal.returns-then-time-self-clause-events
returns-then-time-self-clause-events c =
    rw (← c.self.view_is) (sym (none_taken c.args.time c.self.inside.next_time c.self.inside.rest.now c.if-time-self.true c.self.invariant.1))

pub returns-then-time-self-clause-left : goal.returns-then-time-self-clause-left
returns-then-time-self-clause-left c =
    rw (← c.self.view_is) (sym (all_left c.args.time c.self.inside.next_time c.self.inside.rest.now c.if-time-self.true c.self.invariant.1))

pub returns-then-time-self-clause-of_log : goal.returns-then-time-self-clause-of_log
returns-then-time-self-clause-of_log c = λ to log lt e.
    let time = c.args.time in
    let none : [] ≡ window_of time (time + 1) c.args.self.now =
    rw (← c.self.view_is) (sym (none_taken time c.self.inside.next_time c.self.inside.rest.now c.if-time-self.true c.self.invariant.1)) in
    none ∙ ap (window_of time (time + 1)) e ∙ narrowed time to time (time + 1) log (omega arith) (omega arith)

pub returns-then-time-self-clause-left_of_log : goal.returns-then-time-self-clause-left_of_log
returns-then-time-self-clause-left_of_log c = λ to log e.
    let time = c.args.time in
    let all : c.args.self.now ≡ later_than time c.args.self.now =
    rw (← c.self.view_is) (sym (all_left time c.self.inside.next_time c.self.inside.rest.now c.if-time-self.true c.self.invariant.1)) in
    all ∙ ap (later_than time) e ∙ later time time to log (omega arith)

pub returns-clause-of_log : goal.returns-clause-of_log
returns-clause-of_log c = λ to log lt e.
    let time = c.args.time in
    c.take.ensures.events ∙ ap (window_of time (time + 1)) e ∙ narrowed time to time (time + 1) log (omega arith) (omega arith)

pub returns-clause-left_of_log : goal.returns-clause-left_of_log
returns-clause-left_of_log c = λ to log e.
    let time = c.args.time in
    c.take.ensures.left ∙ ap (later_than time) e ∙ later time time to log (omega arith)
