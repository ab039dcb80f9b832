use Rattle.std.proofs.Common.{rules, ltb, arith}
use Rattle.std.proofs.lemmas.Bool.{ltb-true, ltb-false}
use Rattle.std.proofs.lemmas.List.Sorted.{IsPartitionPoint-from_clause, IsPartitionedBy-ltb}
use Rattle.r3k_live.specs.declared.recorder.Written.{Written}
use Rattle.span_fact.proofs.fact.first_from.Goals as goal

pub returns : goal.returns
returns c =
    let writers = c.args.writers.now in
    let point = IsPartitionPoint-from_clause (λ (w : Written). ltb w.place c.args.place) writers c.partition_point.result
    c.partition_point.ensures.partitioned (IsPartitionedBy-ltb (λ (w : Written). w.place) writers c.args.place c.requires)
    (λ a r q h. search rules) in
    record {
      bound = c.partition_point.ensures.bound;
      below = λ k d within. ltb-true _ _ (point.0 k d (omega arith) within);
      above = λ k d low within. ltb-false _ _ (point.1 k d low within);
    }
