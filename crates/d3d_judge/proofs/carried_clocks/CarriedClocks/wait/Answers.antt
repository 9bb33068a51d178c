use Rattle.std.proofs.Common.{◌∙◌, ◌-◌, ap}
use Rattle.d3d_judge.proofs.CarriedClocks.{waited_is}
use Rattle.d3d_judge.proofs.carried_clocks.CarriedClocks.wait.Goals as goal

pub returns : goal.returns
returns c = waited_is c.args.self.now c.call.new.self c.args.thread c.args.fence c.args.value c.saturating_sub-since.result c.at.result.now c.set_wait.new.waits
    c.at.ensures (c.saturating_sub-since.ensures ∙ ap (λ y. y - 1) c.len.ensures) c.set_wait.ensures c.call.ensures
