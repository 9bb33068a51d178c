use Rattle.std.proofs.Common.{◌≡◌, ◌++◌, drop}
use Rattle.sys_core.specs.Lowering.{plan_buffers}
use Rattle.sys_core.proofs.lowering.buffers_of.Given as goal

abbrev pub invariant-loop-resource : goal.invariant-loop-resource
invariant-loop-resource l = l.buffers ++ plan_buffers (drop l.resource-index l.resources) ≡ plan_buffers l.resources
