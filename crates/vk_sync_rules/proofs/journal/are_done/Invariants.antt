-- The commands so far are.
use Rattle.std.proofs.Common.{◌≡◌, ◌+◌, drop}
use Rattle.vk_sync_rules.specs.EnabledSteps.{all_done}
use Rattle.vk_sync_rules.specs.VkState.{placed_from}
use Rattle.vk_sync_rules.proofs.journal.are_done.Given as goal

abbrev pub invariant-loop-i : goal.invariant-loop-i
invariant-loop-i l =
    all_done l.done l.queue (placed_from l.number 1 l.commands) ≡ all_done l.done l.queue (placed_from l.number (l.i + 1) (drop l.i l.commands))
