-- What is pending, batch by batch.
use Rattle.std.proofs.Common.{◌∙◌, sym}
use Rattle.vk_sync_rules.specs.Machines.{is_below, sets_left}
use Rattle.vk_sync_rules.proofs.ListSteps.{all_flat}
use Rattle.vk_sync_rules.proofs.pending.all_below.Goals as goal

pub returns : goal.returns
returns c = c.each_below.ensures ∙ sym (all_flat (is_below c.args.pair) (sets_left c.args.queues.now) c.args.journal.now)
