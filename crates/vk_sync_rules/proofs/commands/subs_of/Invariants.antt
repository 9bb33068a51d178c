-- The subresources so far.
use Rattle.std.proofs.Common.{◌≡◌}
use Rattle.vk_sync_rules.specs.Numbers.{up_to}
use Rattle.vk_sync_rules.proofs.commands.subs_of.Given as goal

abbrev pub invariant-loop-sub : goal.invariant-loop-sub
invariant-loop-sub l = l.subs ≡ up_to 0 l.sub
