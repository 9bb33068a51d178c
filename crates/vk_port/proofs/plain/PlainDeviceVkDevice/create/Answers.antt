-- The objects of the plan are made.
use Rattle.vk_port.proofs.Tying.{tied_create}
use Rattle.vk_port.proofs.plain.PlainDeviceVkDevice.create.Goals as goal

pub invariant_of-self-2 : goal.invariant_of-self-2
invariant_of-self-2 c = record { tied = tied_create c.in_ok-store.store c.then-kept.result c.args.plan.now c.then-kept.ensures c.in_ok-store.ensures.state c.in_ok-store.ensures.words c.in_ok-store.ensures.queues }
