use Rattle.std.proofs.Common.{ap, length, ◌∙◌}
use Rattle.checkpoints.specs.Kept.{Kept, row_at}
use Rattle.checkpoints.specs.Rows.{records_of}
use Rattle.checkpoints.proofs.Rows.{same_kept, seen_same}
use Rattle.checkpoints.proofs.kept.Kept.reserve.Goals as goal

pub invariant_of-self : goal.invariant_of-self
invariant_of-self g c =
    let inside = c.self.inside in
    (same_kept g.row.PAGES g.row.SPAN (records_of inside.rows.items) (records_of c.make_room.new.rows.items) inside.valid inside.most inside.names c.self.invariant.0 c.make_room.ensures.rows, tt, ap length (c.make_room.ensures.ends inside.ended) ∙ c.self.invariant.2)

pub returns-in_err-make_room-clause-rows : goal.returns-in_err-make_room-clause-rows
returns-in_err-make_room-clause-rows g c = λ i.
    seen_same c.self.inside.rows.items c.make_room.new.rows.items c.make_room.ensures.rows i ∙ ap (λ (k : Kept). row_at k.rows i) c.self.view_is

pub invariant_of-self-2 : goal.invariant_of-self-2
invariant_of-self-2 g c =
    let inside = c.self.inside in (
      same_kept g.row.PAGES g.row.SPAN (records_of inside.rows.items) (records_of c.make_room.new.rows.items) inside.valid inside.most inside.names c.self.invariant.0 c.make_room.ensures.rows,
      (c.in_ok-make_room.ensures {u = tt}).room,
      ap length (c.make_room.ensures.ends inside.ended) ∙ c.self.invariant.2,
    )

pub returns-clause-rows : goal.returns-clause-rows
returns-clause-rows g c = λ i.
    seen_same c.self.inside.rows.items c.make_room.new.rows.items c.make_room.ensures.rows i ∙ ap (λ (k : Kept). row_at k.rows i) c.self.view_is
