-- The lists so far.
use Rattle.std.proofs.Common.{◌≡◌, take}
use Rattle.vk_sync_rules.proofs.numbers.lists_copied.Given as goal

abbrev pub invariant-loop-list : goal.invariant-loop-list
invariant-loop-list l = l.copy ≡ take l.list-index l.lists
