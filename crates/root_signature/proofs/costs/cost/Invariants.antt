-- The cost so far and that of the parameters left are the whole, both cut alike.
use Rattle.std.proofs.Common.{◌≡◌, ◌+◌, ◌-◌, ◌<◌, ◌^◌, min, drop}
use Rattle.root_signature.specs.Costs.{cost_of}
use Rattle.root_signature.proofs.costs.cost.Given as goal

abbrev pub invariant-loop-param : goal.invariant-loop-param
invariant-loop-param l =
    (l.cost < 2 ^ 32) × (min (l.cost + cost_of (drop l.param-index l.params)) (2 ^ 32 - 1) ≡ min (cost_of l.params) (2 ^ 32 - 1))
