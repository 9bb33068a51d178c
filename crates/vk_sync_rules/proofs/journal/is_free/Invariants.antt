-- The batches so far do.
use Rattle.std.proofs.Common.{◌≡◌, drop}
use Rattle.std.specs.List.{list_all}
use Rattle.vk_sync_rules.specs.EnabledSteps.{lets}
use Rattle.vk_sync_rules.specs.VkState.{placed}
use Rattle.vk_sync_rules.proofs.journal.is_free.Given as goal

abbrev pub invariant-loop-batch : goal.invariant-loop-batch
invariant-loop-batch l =
    list_all (lets l.done l.queue l.place l.command) (placed l.queue l.journal)
    ≡ list_all (lets l.done l.queue l.place l.command) (placed l.queue (drop l.batch-index l.journal))
