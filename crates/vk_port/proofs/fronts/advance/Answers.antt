-- One place is moved on.
use Rattle.vk_port.proofs.LanePlaces.{front_at, fronts_moved}
use Rattle.vk_port.proofs.fronts.advance.Goals as goal

pub advanced-requires : goal.advanced-requires
advanced-requires c =
    front_at c.args.fronts.now c.args.lanes.now c.args.queue c.at.result.now c.at-2.result.now c.requires.fronts c.at.ensures c.at-2.ensures

pub returns-clause-fronts : goal.returns-clause-fronts
returns-clause-fronts c =
    fronts_moved c.args.fronts.now c.args.lanes.now c.args.queue c.advanced.result c.at-2.result.now c.requires.fronts c.at-2.ensures c.advanced.ensures
