-- What is pending, batch by batch.
use Rattle.std.proofs.Common.{◌∙◌, sym}
use Rattle.vk_sync_rules.specs.Machines.{is_near_it, waits_left}
use Rattle.vk_sync_rules.proofs.ListSteps.{all_flat}
use Rattle.vk_sync_rules.proofs.pending.all_waits_near.Goals as goal

pub returns : goal.returns
returns c = c.each_waits_near.ensures ∙ sym (all_flat (is_near_it c.args.pair) (waits_left c.args.queues.now) c.args.journal.now)
