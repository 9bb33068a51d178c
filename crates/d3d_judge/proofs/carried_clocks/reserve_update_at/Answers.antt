use Rattle.dx_base.proofs.Lists.{map_write_same}
use Rattle.std.proofs.Common.{ap, map}
use Rattle.d3d_judge.specs.CarriedClocks.{updates_in, update_of}
use Rattle.d3d_judge.proofs.CarriedClocks.{on_ok, room_set}
use Rattle.d3d_judge.proofs.carried_clocks.reserve_update_at.Goals as goal

pub returns-clause-same : goal.returns-clause-same
returns-clause-same c = map_write_same updates_in c.args.updates.now c.args.fence c.at_mut.result.now c.reserve.new.self c.requires c.at_mut.ensures.value (ap (map update_of) c.reserve.ensures.items)

pub returns-clause-room : goal.returns-clause-room
returns-clause-room c = on_ok c.reserve.result (room_set c.args.updates.now c.args.fence c.reserve.new.self) c.reserve.ensures.spare
