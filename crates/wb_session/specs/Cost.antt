-- What a command costs (own): the steps that it may run, and what is kept after it.
use Rattle.std.specs.Prelude.{◌≡◌, ◌⊎◌, ℕ, ◌+◌, ◌-◌, ◌*◌, ◌%◌, List, [], ◌∷◌, take, Contains, Result, Ok, Err, nat_eq}
use Rattle.std.specs.Set.{remove_key}
use Rattle.timeline.specs.TimelineView.{Asks, AsksOn, TimelineView, KeepsState}
use Rattle.refusal.specs.declared.fault.Fault.{Fault}
use Rattle.wb_text.specs.declared.command.Command.{Command}
use Rattle.wb_text.specs.declared.command.Command.TheVariants.{Pos, Goto, Step, Back, Visit, Regs, Reg, Cp0, Tlb, Where, Mem, Dis, Console, Find, Writer, Stores, Finds, RegisterWriter, Pcs, Devices, Trace, Jumps, Log, Add, Ferr, Wire, Del, Set, Move, Erase, Patch, Quit}
use Rattle.wb_text.specs.declared.reply.Reply.{Reply}
use Rattle.wb_text.specs.declared.reply.Reply.TheVariants.{Fault as Refused, Jumps as JumpsReply}
use Rattle.wb_session.specs.Lists.{states_after, states_apart, stores_at}
use Rattle.wb_session.specs.Session.{Held}

-- what a reply says of a query: it was answered, or refused
abbrev pub outcome_of : Reply → Result (Unit {0}) Fault
outcome_of (Refused fault) = Err fault
outcome_of reply = Ok tt

-- no query: all that is kept stays, and no step is run
abbrev pub AsksNothing : (old new : Held) → Type 0
AsksNothing old new = new.timeline ≡ old.timeline

-- An edit: the records of all pasts stay, no step is run, and no state inside a span is kept any more. Where it is refused, all stays.
abbrev pub Edits : (old new : Held) → Reply → Type 0
Edits old new (Refused fault) = new.timeline ≡ old.timeline
Edits old new reply =
    new.timeline ≡ record { history = new.timeline.history; rows = old.timeline.rows; pasts = old.timeline.pasts; steps = old.timeline.steps; recent_states = [] }

-- one query of the state at the position
pub record AsksState (pages span : ℕ) (old new : Held) (reply : Reply) : Type 0 where
  pub asks : Asks pages span old.position 0 old.timeline new.timeline (outcome_of reply)
  pub keeps_state : KeepsState span old.position old.timeline new.timeline (outcome_of reply)

-- One query of what the steps before the position reported, or of what comes at most `beyond` steps after it; or several of the former,
-- where those after the first cost at most as many steps together.
pub record AsksSteps (pages span beyond : ℕ) (old new : Held) (reply : Reply) : Type 0 where
  pub asks : Asks pages span old.position beyond old.timeline new.timeline (outcome_of reply)
  pub recent_states : new.timeline.recent_states ≡ old.timeline.recent_states

-- one query of the steps from the position on, at most `beyond` of them
pub record AsksStepsOn (pages span beyond : ℕ) (old new : Held) (reply : Reply) : Type 0 where
  pub asks : AsksOn pages span old.position beyond old.timeline new.timeline (outcome_of reply)
  pub recent_states : new.timeline.recent_states ≡ old.timeline.recent_states

-- Several queries of the state at a position leave the kept states as one does. Where one of them is refused, those before it may
-- have left them so.
abbrev pub KeepsStateOnce : {A : Type 0} → (span position : ℕ) → (old new : TimelineView) → Result A Fault → Type 0
KeepsStateOnce span position old new (Ok answer) = KeepsState {A = Unit {0}} {E = Fault} span position old new (Ok tt)
KeepsStateOnce span position old new (Err fault) = (new.recent_states ≡ old.recent_states) ⊎ KeepsState {A = Unit {0}} {E = Fault} span position old new (Ok tt)

-- `count` words at the position, each by a query. The first costs what one query costs. Each after it costs at most the steps of
-- the position's own span up to the position. Where the state at the position is kept, none of them runs a step.
pub record AsksWords (pages span count : ℕ) (old new : Held) (reply : Reply) : Type 0 where
  pub asks : Asks pages span old.position ((count - 1) * (old.position % span)) old.timeline new.timeline (outcome_of reply)
  pub free : Contains old.timeline.recent_states old.position → new.timeline.steps ≡ old.timeline.steps
  pub keeps_state : KeepsStateOnce span old.position old.timeline new.timeline (outcome_of reply)

-- What one query of the state at a position, which is answered, does with the kept states: as in `KeepsState`.
pub record Leaves (span position : ℕ) (before after : List ℕ) : Type 0 where
  pub again : Contains before position → after ≡ position ∷ remove_key (nat_eq position) before
  pub first : ¬ Contains before position → (after ≡ take 8 (position ∷ before)) ⊎ (after ≡ before)
  pub start : position % span ≡ 0 → after ≡ before

-- what such queries do with them, one after the other
abbrev pub LeavesAlong : (span : ℕ) (positions before after : List ℕ) → Type 0
LeavesAlong span [] before after = after ≡ before
LeavesAlong span (position ∷ rest) before after = (between : List ℕ) × Leaves span position before between × LeavesAlong span rest between after

-- Where one of them is refused, those before it have left the kept states so.
abbrev pub LeavesBy : {A : Type 0} → (span : ℕ) (positions before after : List ℕ) → Result A Fault → Type 0
LeavesBy span positions before after (Ok answer) = LeavesAlong span positions before after
LeavesBy span positions before after (Err fault) = (asked : ℕ) × LeavesAlong span (take asked positions) before after

-- Several queries at positions up to one. The first is at that position, and costs what one query there costs. Each of at most `more` after it
-- costs at most the steps of a span. Those of them that ask for a state are at `positions`, in this order.
pub record AsksStates (pages span position more : ℕ) (positions : List ℕ) (old new : Held) (reply : Reply) : Type 0 where
  pub asks : Asks pages span position (more * span) old.timeline new.timeline (outcome_of reply)
  pub leaves : LeavesBy span positions old.timeline.recent_states new.timeline.recent_states (outcome_of reply)

-- the steps that were followed to find jumps
abbrev pub steps_to_jumps : (position : ℕ) → Reply → ℕ
steps_to_jumps position (JumpsReply next jumps) = next - position
steps_to_jumps position reply = 0

-- what each command costs, on a machine with `pages` pages of RAM whose runs are kept in spans of `span` steps
abbrev pub Costs : (pages span : ℕ) → Command → (old new : Held) → Reply → Type 0
Costs pages span Pos old new reply = AsksNothing old new
Costs pages span (Goto position) old new reply = AsksNothing old new
Costs pages span (Step count) old new reply = AsksNothing old new
Costs pages span (Back count) old new reply = AsksNothing old new
Costs pages span (Visit address limit) old new reply = AsksSteps pages span limit old new reply
Costs pages span Regs old new reply = AsksState pages span old new reply
Costs pages span (Reg number) old new reply = AsksState pages span old new reply
Costs pages span Cp0 old new reply = AsksState pages span old new reply
Costs pages span (Tlb number) old new reply = AsksState pages span old new reply
Costs pages span (Where address) old new reply = AsksState pages span old new reply
Costs pages span (Mem address count) old new reply = AsksWords pages span count old new reply
Costs pages span (Dis address count) old new reply = AsksWords pages span count old new reply
Costs pages span (Console line from count) old new reply = AsksSteps pages span 0 old new reply
Costs pages span (Find line place) old new reply = AsksSteps pages span 0 old new reply
Costs pages span (Writer address) old new reply = AsksSteps pages span 0 old new reply
Costs pages span (Stores address count) old new reply =
    AsksStates pages span old.position (2 * count - 1) (states_after (stores_at pages old.timeline.history old.position address count)) old new reply
Costs pages span (Finds line place count) old new reply = AsksSteps pages span ((count - 1) * (old.position % span)) old new reply
Costs pages span (RegisterWriter register) old new reply = AsksSteps pages span 0 old new reply
Costs pages span (Pcs distance count) old new reply =
    AsksStates pages span (old.position + (count - 1) * distance) (count - 1) (states_apart old.position distance count) old new reply
Costs pages span Devices old new reply = AsksState pages span old new reply
Costs pages span (Trace count) old new reply = AsksSteps pages span count old new reply
Costs pages span (Jumps kind count) old new reply = AsksStepsOn pages span (steps_to_jumps old.position reply) old new reply
Costs pages span (Log from count) old new reply = AsksNothing old new
Costs pages span (Add time line byte) old new reply = Edits old new reply
Costs pages span (Ferr time line byte) old new reply = Edits old new reply
Costs pages span (Wire time line level) old new reply = Edits old new reply
Costs pages span (Del place) old new reply = Edits old new reply
Costs pages span (Set place byte) old new reply = Edits old new reply
Costs pages span (Move place time) old new reply = Edits old new reply
Costs pages span (Erase from to) old new reply = Edits old new reply
Costs pages span (Patch address word) old new reply = Edits old new reply
Costs pages span Quit old new reply = AsksNothing old new
