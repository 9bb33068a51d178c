-- One lane and its place are changed.
use Rattle.vk_port.specs.After.{lane_after_bump}
use Rattle.vk_port.proofs.LanePlaces.{front_at, fronts_changed}
use Rattle.vk_port.proofs.fronts.bump.Goals as goal

pub bumped-requires : goal.bumped-requires
bumped-requires c =
    front_at c.args.fronts.now c.args.lanes.now c.args.queue c.at.result.now c.at-2.result.now c.requires.fronts c.at.ensures c.at-2.ensures

pub returns-clause-fronts : goal.returns-clause-fronts
returns-clause-fronts c =
    fronts_changed lane_after_bump c.args.fronts.now c.args.lanes.now c.args.queue c.bumped.result c.at-2.result.now c.requires.fronts c.at-2.ensures c.bumped.ensures
