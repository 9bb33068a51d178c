-- The subresources so far.
use Rattle.std.proofs.Common.{◌≡◌, map, take}
use Rattle.vk_sync_rules.specs.Machines.{change_access}
use Rattle.vk_sync_rules.proofs.made.changes_of_subs.Given as goal

abbrev pub invariant-loop-sub : goal.invariant-loop-sub
invariant-loop-sub l = l.made ≡ map (change_access l.plan l.queue l.place l.to.stages l.to.accesses l.image) (take l.sub-index l.subs)
