-- The lane that was read is written back.
use Rattle.vk_port.specs.After.{lane_after_bump}
use Rattle.vk_port.proofs.Lists.{written_back}
use Rattle.vk_port.proofs.queues.bump.Goals as goal

pub returns : goal.returns
returns c = written_back lane_after_bump c.args.queue c.args.lanes.now c.at_mut.result.now c.bump.new.self c.requires.queue c.at_mut.ensures.value c.bump.ensures
