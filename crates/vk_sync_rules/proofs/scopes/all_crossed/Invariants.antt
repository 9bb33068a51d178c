-- The accesses so far.
use Rattle.std.proofs.Common.{◌≡◌, map, take}
use Rattle.vk_sync_rules.specs.DoneAccesses.{across}
use Rattle.vk_sync_rules.proofs.scopes.all_crossed.Given as goal

abbrev pub invariant-loop-access : goal.invariant-loop-access
invariant-loop-access l = l.after ≡ map (across l.queue l.place l.from.stages l.from.accesses l.to.stages l.to.accesses) (take l.access-index l.accesses)
