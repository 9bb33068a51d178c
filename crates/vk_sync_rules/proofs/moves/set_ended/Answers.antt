-- The counts that were read are written back.
use Rattle.std.proofs.Common.{arith, sym, refl}
use Rattle.dx_base.proofs.Lists.{changed_past}
use Rattle.vk_sync_rules.specs.Machines.{with_ended}
use Rattle.vk_sync_rules.proofs.ListSteps.{written_back}
use Rattle.vk_sync_rules.proofs.moves.set_ended.Goals as goal

pub returns-then-queue-len : goal.returns-then-queue-len
returns-then-queue-len c = written_back (with_ended c.args.next) c.args.queue c.args.queues.now c.at_mut.result.now _ (omega arith) c.at_mut.ensures.value refl

pub returns-else-queue-len : goal.returns-else-queue-len
returns-else-queue-len c = sym (changed_past (with_ended c.args.next) c.args.queues.now c.args.queue (omega arith))
