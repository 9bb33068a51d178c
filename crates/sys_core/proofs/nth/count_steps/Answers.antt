-- The count is that of the steps that can be taken.
use Rattle.std.proofs.Common.{arith}
use Rattle.sys_core.proofs.NthStep as nth
use Rattle.sys_core.proofs.nth.count_steps.Goals as goal

pub ready_threads-requires-clause-seats : goal.ready_threads-requires-clause-seats
ready_threads-requires-clause-seats g c = nth.seats_count c.args.world.now c.args.history.now.items c.args.parts.now (g.D.VkDevice.view_of c.args.device.now) c.requires.keeps

pub overflow_add-result : goal.overflow_add-result
overflow_add-result g c =
    let fits =
    nth.count_fits c.args.world.now c.args.history.now.items c.args.parts.now (g.D.VkDevice.view_of c.args.device.now) c.requires.keeps (g.D.VkDevice.view_of c.args.device.now).offered c.ready_threads.result c.holding_queues.result c.device_steps.result
    c.ready_threads.ensures c.holding_queues.ensures c.device_steps.ensures.count in
    omega (arith, fits)

pub overflow_add-result-2 : goal.overflow_add-result-2
overflow_add-result-2 g c =
    let fits =
    nth.count_fits c.args.world.now c.args.history.now.items c.args.parts.now (g.D.VkDevice.view_of c.args.device.now) c.requires.keeps (g.D.VkDevice.view_of c.args.device.now).offered c.ready_threads.result c.holding_queues.result c.device_steps.result
    c.ready_threads.ensures c.holding_queues.ensures c.device_steps.ensures.count in
    omega (arith, fits)

pub returns-clause-count : goal.returns-clause-count
returns-clause-count g c =
    nth.count_is c.args.world.now c.args.history.now.items c.args.parts.now (g.D.VkDevice.view_of c.args.device.now) c.requires.keeps (g.D.VkDevice.view_of c.args.device.now).offered c.ready_threads.result c.holding_queues.result c.device_steps.result
    c.ready_threads.ensures c.holding_queues.ensures c.device_steps.ensures.count
