use Rattle.fence_costs.proofs.Steps.{stays, one_armed, done_on}
use Rattle.fence_costs.proofs.rounds.is_reached.Goals as goal

pub returns : goal.returns
returns c =
    done_on
    c.args.fence.now c.arm.new.self c.arm.new.self c.done.new.self c.args.value c.in_ok-wait.wait
    c.in_ok-wait.ensures.state c.in_ok-wait.ensures.wait
    (stays c.arm.new.self (one_armed c.args.fence.now c.arm.new.self c.in_ok-wait.wait c.in_ok-wait.ensures.state c.arm.ensures.list c.requires))
    c.done.ensures.state c.done.ensures.list
