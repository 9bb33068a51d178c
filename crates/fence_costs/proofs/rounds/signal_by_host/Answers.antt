use Rattle.fence_costs.proofs.Steps.{same_on, host_on}
use Rattle.fence_costs.proofs.rounds.signal_by_host.Goals as goal

pub returns-in_err-host_signal : goal.returns-in_err-host_signal
returns-in_err-host_signal c =
    same_on c.args.fence.now c.host_signal.new.self c.in_err-host_signal.ensures.same c.host_signal.ensures.list c.requires

pub returns : goal.returns
returns c = host_on c.args.fence.now c.host_signal.new.self c.args.value c.in_ok-host_signal.ensures.state c.host_signal.ensures.list c.requires
