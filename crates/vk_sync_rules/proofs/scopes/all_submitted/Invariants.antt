-- The accesses so far.
use Rattle.std.proofs.Common.{◌≡◌, map, take}
use Rattle.vk_sync_rules.specs.DoneAccesses.{after_submit}
use Rattle.vk_sync_rules.proofs.scopes.all_submitted.Given as goal

abbrev pub invariant-loop-access : goal.invariant-loop-access
invariant-loop-access l = l.after ≡ map (after_submit l.batch.queue l.batch.number) (take l.access-index l.accesses)
