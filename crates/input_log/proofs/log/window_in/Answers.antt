-- Each search answers where the events of later times begin.
use Rattle.std.proofs.Common.{rules, ltb, drop}
use Rattle.std.proofs.lemmas.List.{take_rest}
use Rattle.std.proofs.lemmas.List.Sorted.{IsPartitionPoint-from_clause, IsPartitionedBy-ltb, IsNonDecreasingBy-drop}
use Rattle.input_log.proofs.Window.{window-between}
use Rattle.input_log.proofs.log.window_in.Goals as goal

pub returns : goal.returns
returns c =
    let events = c.args.events.now in
    let first = c.partition_point-start.result in
    let later = take_rest events first in
    let start = IsPartitionPoint-from_clause (λ e. ltb e.time c.args.from) events first
    c.partition_point-start.ensures.partitioned (IsPartitionedBy-ltb (λ e. e.time) events c.args.from c.requires)
    (λ a r q h. search rules) in
    let end = IsPartitionPoint-from_clause (λ e. ltb e.time c.args.to) (drop first events) c.partition_point-end.result
    (rw later at c.partition_point-end.ensures.partitioned)
    (IsPartitionedBy-ltb (λ e. e.time) (drop first events) c.args.to (IsNonDecreasingBy-drop (λ e. e.time) first events c.requires))
    (λ a r q h. search rules) in
    rw later
    (window-between events c.args.from c.args.to first c.partition_point-end.result c.partition_point-start.ensures.bound
    (rw later at c.partition_point-end.ensures.bound) start end)
