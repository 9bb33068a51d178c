-- Few parameters with few constants cost little.
use Rattle.std.proofs.Common.{◌≡◌, arith, ap, drop}
use Rattle.std.proofs.Math.ListN.{drop_of_length-le}
use Rattle.root_signature.specs.Costs.{cost_of}
use Rattle.root_signature.proofs.Sound.{few_cost_little}
use Rattle.root_signature.proofs.costs.cost.Goals as goal

pub returns-clause-exact : goal.returns-clause-exact
returns-clause-exact c = λ few constants.
    let small = few_cost_little c.args.params.now constants in
    let none : cost_of (drop c.loop-param.param-index c.args.params.now) ≡ 0 = ap cost_of (drop_of_length-le c.args.params.now c.loop-param-test.false) in
    let whole = c.loop-param.invariant.1 in
    omega arith
