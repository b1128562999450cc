use Rattle.std.proofs.Common.{ltb, ltb-true, arith, rules}
use Rattle.std.proofs.lemmas.List.Sorted.{IsPartitionPoint-from_clause, IsPartitionedBy-ltb}
use Rattle.cs_listen.specs.declared.postings.Posting.{Posting}
use Rattle.cs_listen.proofs.Posted.{not_less}
use Rattle.cs_listen.proofs.postings.count_below.Goals as goal

pub returns-clause-below : goal.returns-clause-below
returns-clause-below c =
    let parted = IsPartitionedBy-ltb (λ (p : Posting). p.code) _ c.args.code c.requires in
    let point = IsPartitionPoint-from_clause (λ (p : Posting). ltb p.code c.args.code) _ _ c.partition_point.ensures.partitioned parted (λ a r q k. search rules) in
    λ k d h. ltb-true _ _ (point.0 k d (omega arith) h)

pub returns-clause-others : goal.returns-clause-others
returns-clause-others c =
    let parted = IsPartitionedBy-ltb (λ (p : Posting). p.code) _ c.args.code c.requires in
    let point = IsPartitionPoint-from_clause (λ (p : Posting). ltb p.code c.args.code) _ _ c.partition_point.ensures.partitioned parted (λ a r q k. search rules) in
    λ k d from within. not_less _ _ (point.1 k d from within)
