use Rattle.std.proofs.Common.{arith}
use Rattle.barrier_lowering.proofs.NumberTables.{numbers_are}
use Rattle.barrier_lowering.proofs.numbers.numbers_of.Goals as goal

pub returns : goal.returns
returns c = numbers_are c.args.sort c.args.resources.now c.loop-resource.numbers c.loop-resource.number c.loop-resource.resource-index c.loop-resource.invariant.0 (omega (arith, c.loop-resource-test.false))
