use Rattle.std.proofs.Common.{leb, leb-true, leb-false, rules}
use Rattle.std.proofs.lemmas.List.Sorted.{IsPartitionPoint-from_clause, IsPartitionedBy-leb}
use Rattle.ty_ulog.proofs.index.count_passed.Goals as goal

pub returns-clause-parted : goal.returns-clause-parted
returns-clause-parted c = λ rise.
    let parted = IsPartitionedBy-leb (λ m. m.last) _ c.args.stamp rise in
    let point = IsPartitionPoint-from_clause (λ m. leb m.last c.args.stamp) _ _ c.partition_point.ensures.partitioned parted (λ a r q k. search rules) in
    (λ k d low high. leb-true _ _ (point.0 k d low high), λ k d low high. leb-false _ _ (point.1 k d low high))
