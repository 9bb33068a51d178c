use Rattle.fence_costs.proofs.Steps.{same_on, signalled_on, on_on}
use Rattle.fence_costs.proofs.rounds.submit.Goals as goal

pub returns-in_err-reserve : goal.returns-in_err-reserve
returns-in_err-reserve c = same_on c.args.fence.now c.reserve.new.self c.reserve.ensures.same c.reserve.ensures.list c.requires

pub returns : goal.returns
returns c =
    let before = same_on c.args.fence.now c.reserve.new.self c.reserve.ensures.same c.reserve.ensures.list c.requires in
    on_on _ _ _ before
    (signalled_on c.reserve.new.self c.gpu_signal.new.self c.args.value c.args.at c.gpu_signal.ensures.state c.gpu_signal.ensures.list before.queue)
