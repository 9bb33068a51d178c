-- The ranges that are left.
use Rattle.std.proofs.Common.{◌≡◌, length}
use Rattle.vk_sync_rules.specs.Machines.{numbers_of}
use Rattle.vk_sync_rules.specs.Numbers.{opened_all}
use Rattle.vk_sync_rules.proofs.numbers.NumberTable.open_all.Given as goal

abbrev pub invariant-loop-range : goal.invariant-loop-range
invariant-loop-range l = opened_all l.ranges (numbers_of l.initial.self) ≡ opened_all l.rest (numbers_of l.self)

abbrev pub decreases-loop-range : goal.decreases-loop-range
decreases-loop-range l = length l.rest
