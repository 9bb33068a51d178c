-- The batch is none of those so far.
use Rattle.std.proofs.Common.{◌≡◌, drop}
use Rattle.vk_sync_rules.specs.VkState.{batch_in}
use Rattle.vk_sync_rules.proofs.journal.batch_in.Given as goal

abbrev pub invariant-loop-batch : goal.invariant-loop-batch
invariant-loop-batch l = batch_in l.queue l.number l.journal ≡ batch_in l.queue l.number (drop l.batch-index l.journal)
