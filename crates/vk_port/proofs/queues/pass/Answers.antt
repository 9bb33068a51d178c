-- The lane that was read is written back.
use Rattle.vk_port.specs.After.{lane_after_pass}
use Rattle.vk_port.proofs.Lists.{written_back}
use Rattle.vk_port.proofs.queues.pass.Goals as goal

pub returns : goal.returns
returns c = written_back lane_after_pass c.args.queue c.args.lanes.now c.at_mut.result.now c.pass.new.self c.requires.queue c.at_mut.ensures.value c.pass.ensures
