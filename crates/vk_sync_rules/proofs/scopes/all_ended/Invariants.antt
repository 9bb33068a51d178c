-- The accesses so far.
use Rattle.std.proofs.Common.{◌≡◌, map, take}
use Rattle.vk_sync_rules.specs.DoneAccesses.{after_bump}
use Rattle.vk_sync_rules.proofs.scopes.all_ended.Given as goal

abbrev pub invariant-loop-access : goal.invariant-loop-access
invariant-loop-access l = l.after ≡ map (after_bump l.queue l.number l.sets) (take l.access-index l.accesses)
