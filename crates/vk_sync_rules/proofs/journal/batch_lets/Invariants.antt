-- The commands so far do.
use Rattle.std.proofs.Common.{◌≡◌, ◌+◌, drop}
use Rattle.std.specs.List.{list_all}
use Rattle.vk_sync_rules.specs.EnabledSteps.{lets}
use Rattle.vk_sync_rules.specs.VkState.{placed_from}
use Rattle.vk_sync_rules.proofs.journal.batch_lets.Given as goal

abbrev pub invariant-loop-i : goal.invariant-loop-i
invariant-loop-i l =
    list_all (lets l.done l.queue l.place l.command) (placed_from l.batch.number 1 l.batch.commands)
    ≡ list_all (lets l.done l.queue l.place l.command) (placed_from l.batch.number (l.i + 1) (drop l.i l.batch.commands))
