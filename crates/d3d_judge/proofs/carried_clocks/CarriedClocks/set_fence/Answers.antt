use Rattle.d3d_judge.proofs.CarriedClocks.{fence_set_is, next_is}
use Rattle.d3d_judge.proofs.carried_clocks.CarriedClocks.set_fence.Goals as goal

pub returns : goal.returns
returns c = fence_set_is c.args.self.now c.call.new.self c.args.thread c.args.fence c.args.value c.next_call_clock-clock.result c.push_update.new.updates
    (next_is c.args.self.now c.args.thread c.next_call_clock-clock.result c.next_call_clock-clock.ensures) c.push_update.ensures c.call.ensures
