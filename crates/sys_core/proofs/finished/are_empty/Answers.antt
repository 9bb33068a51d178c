-- A turn passes a queue that is empty.
use Rattle.std.proofs.Common.{◌<◌, ◌∙◌, sym, arith, length}
use Rattle.vk_port.specs.Machine.{shown}
use Rattle.sys_core.specs.Finished.{is_empty_at}
use Rattle.sys_core.proofs.Finishing.{all_on}
use Rattle.sys_core.proofs.finished.are_empty.Goals as goal

pub loop-queue-preserved : goal.loop-queue-preserved
loop-queue-preserved g c =
    let less : c.loop-queue.queue < length c.args.parts.now.held = omega (arith, c.loop-queue-test.true, c.len-queue-end.ensures) in
    all_on (is_empty_at c.args.parts.now.held (shown (g.D.VkDevice.view_of c.args.device.now).state)) (length c.args.parts.now.held) c.loop-queue.queue less
    (sym c.is_empty.ensures ∙ c.if-not-is_empty.false) c.loop-queue.invariant
