use Rattle.std.proofs.Common.{refl}
use Rattle.table_rows.proofs.WaitedFences.{waited_new}
use Rattle.table_rows.proofs.fence_rows.waiting.Goals as goal

pub returns : goal.returns
returns c = waited_new _ _ _ _ _ _ c.in_ok-fence.ensures.new c.in_ok-wait.ensures.state c.arm.ensures.list
