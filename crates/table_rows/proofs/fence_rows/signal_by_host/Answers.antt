use Rattle.std.proofs.Common.{refl}
use Rattle.table_rows.proofs.WaitedFences.{waited_same, waited_host}
use Rattle.table_rows.proofs.fence_rows.signal_by_host.Goals as goal

pub returns-in_err-host_signal : goal.returns-in_err-host_signal
returns-in_err-host_signal c =
    waited_same c.args.fence.now c.host_signal.new.self c.args.wait.now c.in_err-host_signal.ensures.same c.host_signal.ensures.list c.requires

pub returns : goal.returns
returns c =
    waited_host c.args.fence.now c.host_signal.new.self c.args.wait.now c.args.value c.in_ok-host_signal.ensures.state c.host_signal.ensures.list c.requires
