-- The first stores.
use Rattle.std.proofs.Common.{◌≡◌, map, take}
use Rattle.routines.specs.Effect.{store_in}
use Rattle.routines.proofs.stores.stores_in.Given as goal

abbrev pub invariant-loop-put : goal.invariant-loop-put
invariant-loop-put l = l.stores ≡ map (store_in l.view) (take l.put-index l.made)
