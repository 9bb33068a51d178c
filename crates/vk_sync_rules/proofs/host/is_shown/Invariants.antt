-- The queues so far do not show it.
use Rattle.std.proofs.Common.{◌≡◌, ◌-◌, length}
use Rattle.std.specs.List.{list_any}
use Rattle.vk_sync_rules.specs.Machines.{is_shown_in}
use Rattle.vk_sync_rules.specs.Numbers.{up_to}
use Rattle.vk_sync_rules.proofs.host.is_shown.Given as goal

abbrev pub invariant-loop-queue : goal.invariant-loop-queue
invariant-loop-queue l =
    list_any (is_shown_in l.queues l.write) (up_to 0 (length l.queues))
    ≡ list_any (is_shown_in l.queues l.write) (up_to l.queue (length l.queues - l.queue))
