use Rattle.std.proofs.Common.{rules, ltb}
use Rattle.std.proofs.lemmas.List.Sorted.{IsPartitionPoint-from_clause, IsPartitionedBy-ltb}
use Rattle.input_log.proofs.Erased.{searched_start}
use Rattle.input_log.proofs.edits.place_at.Goals as goal

pub returns-clause-place : goal.returns-clause-place
returns-clause-place c =
    let events = c.args.events.now in
    searched_start c.args.time events c.partition_point.result c.partition_point.ensures.bound
    (IsPartitionPoint-from_clause (λ e. ltb e.time c.args.time) events c.partition_point.result
    c.partition_point.ensures.partitioned (IsPartitionedBy-ltb (λ e. e.time) events c.args.time c.requires)
    (λ a r q h. search rules))
