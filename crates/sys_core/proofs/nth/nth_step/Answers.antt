-- The step is that of its place.
use Rattle.std.proofs.Common.{arith}
use Rattle.sys_core.proofs.NthStep as nth
use Rattle.sys_core.proofs.nth.nth_step.Goals as goal

pub nth_thread-requires-clause-seats : goal.nth_thread-requires-clause-seats
nth_thread-requires-clause-seats g c = nth.seats_count c.args.world.now c.args.history.now.items c.args.parts.now (g.D.VkDevice.view_of c.args.device.now) c.requires.keeps

pub returns-in-Ok : goal.returns-in-Ok
returns-in-Ok g c = nth.nth_is_thread c.args.world.now c.args.history.now.items c.args.parts.now (g.D.VkDevice.view_of c.args.device.now) c.requires.keeps (g.D.VkDevice.view_of c.args.device.now).offered c.args.k c.in-Ok.step c.in-Ok.ensures

pub returns-in-Ok-nth_worker : goal.returns-in-Ok-nth_worker
returns-in-Ok-nth_worker g c =
    nth.nth_is_worker c.args.world.now c.args.history.now.items c.args.parts.now (g.D.VkDevice.view_of c.args.device.now) c.requires.keeps (g.D.VkDevice.view_of c.args.device.now).offered c.args.k c.in-Err.left c.in-Ok-nth_worker.step c.in-Err.ensures c.in-Ok-nth_worker.ensures

pub overflow_cast-result : goal.overflow_cast-result
overflow_cast-result g c =
    let within = nth.device_within c.args.world.now c.args.history.now.items c.args.parts.now (g.D.VkDevice.view_of c.args.device.now) c.requires.keeps (g.D.VkDevice.view_of c.args.device.now).offered c.args.k c.in-Err.left c.in-Err-nth_worker.left c.in-Err.ensures c.in-Err-nth_worker.ensures c.requires.within in
    omega (arith, within)

pub returns-in-Err-nth_worker : goal.returns-in-Err-nth_worker
returns-in-Err-nth_worker g c =
    nth.nth_is_device c.args.world.now c.args.history.now.items c.args.parts.now (g.D.VkDevice.view_of c.args.device.now) c.requires.keeps (g.D.VkDevice.view_of c.args.device.now).offered c.args.k c.in-Err.left c.in-Err-nth_worker.left c.in-Err.ensures c.in-Err-nth_worker.ensures c.requires.within
