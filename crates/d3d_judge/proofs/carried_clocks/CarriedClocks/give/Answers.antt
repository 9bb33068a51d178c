use Rattle.d3d_judge.proofs.CarriedClocks.{given_is, next_is}
use Rattle.d3d_judge.proofs.carried_clocks.CarriedClocks.give.Goals as goal

pub returns : goal.returns
returns c = given_is c.args.self.now c.call.new.self c.args.thread c.args.queue c.args.operation c.next_call_clock-clock.result c.push_work.new.pending
    (next_is c.args.self.now c.args.thread c.next_call_clock-clock.result c.next_call_clock-clock.ensures) c.push_work.ensures c.call.ensures
