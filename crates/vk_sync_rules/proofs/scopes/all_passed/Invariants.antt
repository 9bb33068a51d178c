-- The accesses so far.
use Rattle.std.proofs.Common.{◌≡◌, map, take}
use Rattle.vk_sync_rules.specs.DoneAccesses.{after_pass}
use Rattle.vk_sync_rules.proofs.scopes.all_passed.Given as goal

abbrev pub invariant-loop-access : goal.invariant-loop-access
invariant-loop-access l = l.after ≡ map (after_pass l.queue l.number l.waits) (take l.access-index l.accesses)
