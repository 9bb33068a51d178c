-- All commands of one more batch are done.
use Rattle.std.proofs.Common.{arith}
use Rattle.vk_port.proofs.LanePlaces.{front_next}
use Rattle.vk_port.proofs.fronts.Front.advanced.Goals as goal

pub loop-batch-preserved : goal.loop-batch-preserved
loop-batch-preserved c =
    front_next c.args.lane.now c.loop-batch.batch c.loop-batch.from c.loop-batch.invariant c.at-running.result.now c.done_to-command.result (omega arith) c.at-running.ensures c.done_to-command.ensures (omega arith)
