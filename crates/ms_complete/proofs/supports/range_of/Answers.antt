use Rattle.std.proofs.Common.{leb, ltb, rules}
use Rattle.std.proofs.lemmas.List.Sorted.{IsPartitionPoint-from_clause, IsPartitionedBy-leb, IsPartitionedBy-ltb}
use Rattle.ms_complete.specs.declared.key.Support.{Support}
use Rattle.ms_complete.proofs.SupportLaws.{range_order, range_own}
use Rattle.ms_complete.proofs.supports.range_of.Goals as goal

pub returns-clause-order : goal.returns-clause-order
returns-clause-order c =
    let supports = c.args.supports.now in
    let low = IsPartitionPoint-from_clause (λ (s : Support). ltb s.head c.args.head) supports c.partition_point-first.result c.partition_point-first.ensures.partitioned
    (IsPartitionedBy-ltb (λ (s : Support). s.head) supports c.args.head c.requires) (λ a r f k. search rules) in
    let high = IsPartitionPoint-from_clause (λ (s : Support). leb s.head c.args.head) supports c.partition_point-end.result c.partition_point-end.ensures.partitioned
    (IsPartitionedBy-leb (λ (s : Support). s.head) supports c.args.head c.requires) (λ a r f k. search rules) in
    range_order supports c.args.head c.partition_point-first.result c.partition_point-end.result low high c.partition_point-first.ensures.bound

pub returns-clause-own : goal.returns-clause-own
returns-clause-own c =
    let supports = c.args.supports.now in
    let low = IsPartitionPoint-from_clause (λ (s : Support). ltb s.head c.args.head) supports c.partition_point-first.result c.partition_point-first.ensures.partitioned
    (IsPartitionedBy-ltb (λ (s : Support). s.head) supports c.args.head c.requires) (λ a r f k. search rules) in
    let high = IsPartitionPoint-from_clause (λ (s : Support). leb s.head c.args.head) supports c.partition_point-end.result c.partition_point-end.ensures.partitioned
    (IsPartitionedBy-leb (λ (s : Support). s.head) supports c.args.head c.requires) (λ a r f k. search rules) in
    range_own supports c.args.head c.partition_point-first.result c.partition_point-end.result low high c.partition_point-end.ensures.bound
