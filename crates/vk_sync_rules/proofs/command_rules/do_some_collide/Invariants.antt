-- The pieces that are left.
use Rattle.std.proofs.Common.{◌≡◌, length}
use Rattle.vk_sync_rules.specs.Rules.{some_collide}
use Rattle.vk_sync_rules.proofs.command_rules.do_some_collide.Given as goal

abbrev pub invariant-loop-piece : goal.invariant-loop-piece
invariant-loop-piece l = some_collide l.pieces ≡ some_collide l.rest

abbrev pub decreases-loop-piece : goal.decreases-loop-piece
decreases-loop-piece l = length l.rest
