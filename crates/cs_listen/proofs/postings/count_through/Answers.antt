use Rattle.std.proofs.Common.{leb, leb-true, arith, rules}
use Rattle.std.proofs.lemmas.List.Sorted.{IsPartitionPoint-from_clause, IsPartitionedBy-leb}
use Rattle.cs_listen.specs.declared.postings.Posting.{Posting}
use Rattle.cs_listen.proofs.Posted.{not_at_most}
use Rattle.cs_listen.proofs.postings.count_through.Goals as goal

pub returns-clause-through : goal.returns-clause-through
returns-clause-through c =
    let parted = IsPartitionedBy-leb (λ (p : Posting). p.code) _ c.args.code c.requires in
    let point = IsPartitionPoint-from_clause (λ (p : Posting). leb p.code c.args.code) _ _ c.partition_point.ensures.partitioned parted (λ a r q k. search rules) in
    λ k d h. leb-true _ _ (point.0 k d (omega arith) h)

pub returns-clause-others : goal.returns-clause-others
returns-clause-others c =
    let parted = IsPartitionedBy-leb (λ (p : Posting). p.code) _ c.args.code c.requires in
    let point = IsPartitionPoint-from_clause (λ (p : Posting). leb p.code c.args.code) _ _ c.partition_point.ensures.partitioned parted (λ a r q k. search rules) in
    λ k d from within. not_at_most _ _ (point.1 k d from within)
