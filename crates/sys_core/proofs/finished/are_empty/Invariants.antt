-- The queues that were looked at are empty.
use Rattle.std.proofs.Common.{◌≡◌, ◌-◌, length}
use Rattle.vk_port.specs.Machine.{shown}
use Rattle.sys_core.specs.Finished.{is_empty_at, all_from}
use Rattle.sys_core.proofs.finished.are_empty.Given as goal

abbrev pub invariant-loop-queue : goal.invariant-loop-queue
invariant-loop-queue g l =
    all_from (is_empty_at l.parts.held (shown (g.D.VkDevice.view_of l.device).state)) 0 (length l.parts.held)
    ≡ all_from (is_empty_at l.parts.held (shown (g.D.VkDevice.view_of l.device).state)) l.queue (length l.parts.held - l.queue)
