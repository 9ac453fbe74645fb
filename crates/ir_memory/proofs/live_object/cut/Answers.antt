use Rattle.std.proofs.Common.{nat_lt, rules}
use Rattle.std.proofs.lemmas.List.Sorted.{IsPartitionPoint-from_clause, IsPartitionedBy-ltb}
use Rattle.ir_memory.specs.declared.live_object.LiveObject.{LiveObject}
use Rattle.ir_memory.proofs.ObjectLemmas.{not_falling, parted_cut}
use Rattle.ir_memory.proofs.live_object.cut.Goals as goal

pub returns : goal.returns
returns c =
    let os = c.args.objects.now in
    let number = c.args.number in
    let parts = IsPartitionPoint-from_clause (λ (o : LiveObject). nat_lt o.number number) os c.partition_point.result c.partition_point.ensures.partitioned
    (IsPartitionedBy-ltb (λ (o : LiveObject). o.number) os number (not_falling os c.requires)) (λ a r f called. search rules) in
    parted_cut os number c.partition_point.result c.partition_point.ensures.bound parts
