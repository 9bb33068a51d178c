use Rattle.std.proofs.Common.{◌≡◌, map, take, ◌∷◌, []}
use Rattle.clocks.specs.Clocks.{zero_clock}
use Rattle.d3d_judge.specs.CarriedClocks.{updates_in}
use Rattle.d3d_judge.proofs.carried_clocks.first_updates.Given as goal

abbrev pub invariant-loop-value : goal.invariant-loop-value
invariant-loop-value l = map updates_in l.updates ≡ map (λ v. record { value = v; clock = zero_clock l.queues l.threads } ∷ []) (take l.value-index l.values)
