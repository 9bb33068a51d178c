use Rattle.std.proofs.Common.{arith}
use Rattle.sys_core.proofs.Updates.{updated_past}
use Rattle.sys_core.proofs.fences.push_update.Goals as goal

pub returns-else-at-len : goal.returns-else-at-len
returns-else-at-len c = updated_past c.args.fences.now c.args.fence.0 c.args.value (omega (arith, c.if-at-len.false, c.len.ensures))
