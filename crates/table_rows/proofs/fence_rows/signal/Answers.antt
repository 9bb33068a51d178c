use Rattle.std.proofs.Common.{refl}
use Rattle.table_rows.proofs.WaitedFences.{waited_same, waited_signalled}
use Rattle.table_rows.proofs.fence_rows.signal.Goals as goal

pub returns-in_err-reserve : goal.returns-in_err-reserve
returns-in_err-reserve c =
    waited_same c.args.fence.now c.reserve.new.self c.args.wait.now c.reserve.ensures.same c.reserve.ensures.list c.requires.waited

pub returns : goal.returns
returns c =
    waited_signalled
    c.reserve.new.self c.gpu_signal.new.self c.args.wait.now c.args.value c.args.queue c.args.at
    c.gpu_signal.ensures.state c.gpu_signal.ensures.list c.requires.low
    (waited_same c.args.fence.now c.reserve.new.self c.args.wait.now c.reserve.ensures.same c.reserve.ensures.list c.requires.waited)
