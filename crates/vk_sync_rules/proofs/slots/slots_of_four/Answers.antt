-- One register after the other.
use Rattle.vk_sync_rules.proofs.SlotSteps.{four_first}
use Rattle.vk_sync_rules.proofs.slots.slots_of_four.Goals as goal

pub returns : goal.returns
returns c =
    four_first c.args.one c.args.two c.args.three c.args.four c.unless-first.result c.unless-second.result c.unless-third.result c.unless-fourth.result
    c.unless-first.ensures c.unless-second.ensures c.unless-third.ensures c.unless-fourth.ensures
