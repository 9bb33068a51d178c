use Rattle.std.proofs.Common.{arith}
use Rattle.sys_core.proofs.Numbers.{numbers_are}
use Rattle.sys_core.proofs.lowering.numbers_of.Goals as goal

pub returns : goal.returns
returns c = numbers_are c.args.resources.now c.loop-resource.numbers c.loop-resource.number c.loop-resource.resource-index c.loop-resource.invariant.0 (omega (arith, c.loop-resource-test.false))
