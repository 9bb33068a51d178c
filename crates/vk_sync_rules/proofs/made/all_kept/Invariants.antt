-- The accesses so far.
use Rattle.std.proofs.Common.{◌≡◌, map, take}
use Rattle.vk_sync_rules.specs.NextState.{kept_by}
use Rattle.vk_sync_rules.proofs.made.all_kept.Given as goal

abbrev pub invariant-loop-access : goal.invariant-loop-access
invariant-loop-access l = l.after ≡ map (kept_by l.queue l.place l.command) (take l.access-index l.accesses)
