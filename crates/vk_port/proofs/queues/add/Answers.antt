-- The lane that was read is written back.
use Rattle.vk_port.specs.After.{with_batch}
use Rattle.vk_port.proofs.Lists.{written_back}
use Rattle.vk_port.proofs.queues.add.Goals as goal

pub returns-clause-ok : goal.returns-clause-ok
returns-clause-ok c = written_back (with_batch c.args.running) c.args.queue c.args.lanes.now c.at_mut.result.now c.add.new.self c.requires c.at_mut.ensures.value c.in_ok-add.ensures.ok
