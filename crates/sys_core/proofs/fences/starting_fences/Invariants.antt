use Rattle.std.proofs.Common.{◌≡◌, ◌∷◌, [], take, map}
use Rattle.sys_core.specs.Parts.{updates_in}
use Rattle.sys_core.proofs.fences.starting_fences.Given as goal

abbrev pub invariant-loop-value : goal.invariant-loop-value
invariant-loop-value l = map updates_in l.fences ≡ map (λ v. v ∷ []) (take l.value-index l.values)
