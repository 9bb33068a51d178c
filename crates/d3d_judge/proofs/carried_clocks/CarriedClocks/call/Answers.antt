use Rattle.d3d_judge.proofs.CarriedClocks.{called_is}
use Rattle.d3d_judge.proofs.carried_clocks.CarriedClocks.call.Goals as goal

pub returns : goal.returns
returns c = called_is c.args.self.now c.args.thread c.next_number-number.result c.set_call.new.self c.set_thread.new.threads c.next_number-number.ensures c.set_call.ensures c.set_thread.ensures
