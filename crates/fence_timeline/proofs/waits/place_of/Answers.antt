use Rattle.std.proofs.Common.{arith, rules}
use Rattle.std.proofs.lemmas.List.Sorted.{IsPartitionPoint-from_clause}
use Rattle.fence_timeline.proofs.WaitList.{below, parted_below, point_is}
use Rattle.fence_timeline.proofs.waits.place_of.Goals as goal

pub returns : goal.returns
returns c =
    let ws = c.args.items.now.items in
    let n = c.args.number in
    let point = IsPartitionPoint-from_clause (below n) ws _ c.partition_point.ensures.partitioned (parted_below n ws c.requires) (λ a r q k. search rules) in
    point_is n ws c.partition_point.result (omega arith) point
