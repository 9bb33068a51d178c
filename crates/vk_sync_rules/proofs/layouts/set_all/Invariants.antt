-- The subresources that are left.
use Rattle.std.proofs.Common.{◌≡◌, length}
use Rattle.vk_sync_rules.specs.NextState.{with_layout}
use Rattle.vk_sync_rules.proofs.layouts.set_all.Given as goal

abbrev pub invariant-loop-sub : goal.invariant-loop-sub
invariant-loop-sub l = with_layout l.layout l.subs l.initial.layouts ≡ with_layout l.layout l.rest l.layouts

abbrev pub decreases-loop-sub : goal.decreases-loop-sub
decreases-loop-sub l = length l.rest
