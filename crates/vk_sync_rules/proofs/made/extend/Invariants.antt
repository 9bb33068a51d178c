-- The accesses that are left.
use Rattle.std.proofs.Common.{◌≡◌, ◌++◌, length}
use Rattle.vk_sync_rules.proofs.made.extend.Given as goal

abbrev pub invariant-loop-access : goal.invariant-loop-access
invariant-loop-access l = l.initial.accesses ++ l.more ≡ l.accesses ++ l.rest

abbrev pub decreases-loop-access : goal.decreases-loop-access
decreases-loop-access l = length l.rest
