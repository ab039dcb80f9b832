use Rattle.std.proofs.Common.{◌≡◌, ◌+◌, ◌*◌, ◌≤◌, ◌++◌, drop}
use Rattle.arrayvec.specs.ArrayVec.{array_vec_len}
use Rattle.wb_text.specs.Text.{numbered}
use Rattle.wb_text.specs.Reply.{event_text, log_text}
use Rattle.wb_text.proofs.reply.push_log.Given as goal

abbrev pub invariant-loop-event : goal.invariant-loop-event
invariant-loop-event l = record {
  items : l.text.items ++ numbered event_text l.number (drop l.event-index l.events) ≡ l.fn.text.items ++ log_text l.total l.first l.events;
  room : array_vec_len l.text ≤ array_vec_len l.fn.text + 31 + 76 * l.event-index;
}
