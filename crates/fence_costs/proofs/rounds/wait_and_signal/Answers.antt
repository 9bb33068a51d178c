use Rattle.fence_costs.proofs.Steps.{done_on}
use Rattle.fence_costs.proofs.rounds.wait_and_signal.Goals as goal

pub returns : goal.returns
returns c =
    done_on
    c.args.fence.now c.arm.new.self c.signal.new.fence c.done.new.self c.args.value c.in_ok-wait.wait
    c.in_ok-wait.ensures.state c.in_ok-wait.ensures.wait
    c.signal.ensures
    c.done.ensures.state c.done.ensures.list
