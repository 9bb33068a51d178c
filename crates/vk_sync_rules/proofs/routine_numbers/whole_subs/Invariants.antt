-- The subresources so far.
use Rattle.std.proofs.Common.{◌≡◌, map, take}
use Rattle.vk_sync_rules.specs.NextState.{whole_sub}
use Rattle.vk_sync_rules.proofs.routine_numbers.whole_subs.Given as goal

abbrev pub invariant-loop-sub : goal.invariant-loop-sub
invariant-loop-sub l = l.ranges ≡ map (whole_sub l.plan l.image) (take l.sub-index l.subs)
