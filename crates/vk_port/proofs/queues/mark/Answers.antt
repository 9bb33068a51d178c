-- The lane that was read is one of those that are numbered, and is written back.
use Rattle.vk_port.specs.After.{lane_after_run}
use Rattle.vk_port.proofs.Lists.{written_back}
use Rattle.vk_port.proofs.Placing.{numbered_lane}
use Rattle.vk_port.proofs.queues.mark.Goals as goal

pub returns : goal.returns
returns c = written_back (lane_after_run c.args.number c.args.place) c.args.queue c.args.lanes.now c.at_mut.result.now c.mark.new.self c.requires.queue c.at_mut.ensures.value c.mark.ensures

pub mark-requires : goal.mark-requires
mark-requires c = numbered_lane c.args.lanes.now c.args.queue c.at_mut.result.now c.requires.queue c.requires.numbered c.at_mut.ensures.value
