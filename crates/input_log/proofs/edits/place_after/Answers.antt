use Rattle.std.proofs.Common.{rules, leb}
use Rattle.std.proofs.lemmas.List.Sorted.{IsPartitionPoint-from_clause, IsPartitionedBy-leb}
use Rattle.input_log.proofs.Editing.{searched_place}
use Rattle.input_log.proofs.edits.place_after.Goals as goal

pub returns-clause-place : goal.returns-clause-place
returns-clause-place c =
    let events = c.args.events.now in
    searched_place c.args.time events c.partition_point.result c.partition_point.ensures.bound
    (IsPartitionPoint-from_clause (λ e. leb e.time c.args.time) events c.partition_point.result
    c.partition_point.ensures.partitioned (IsPartitionedBy-leb (λ e. e.time) events c.args.time c.requires)
    (λ a r q h. search rules))
