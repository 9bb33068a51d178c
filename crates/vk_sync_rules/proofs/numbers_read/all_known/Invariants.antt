-- The numbers so far.
use Rattle.std.proofs.Common.{◌≡◌, map, take}
use Rattle.vk_sync_rules.specs.Dispatches.{known}
use Rattle.vk_sync_rules.proofs.numbers_read.all_known.Given as goal

abbrev pub invariant-loop-number : goal.invariant-loop-number
invariant-loop-number l = l.all ≡ map known (take l.number-index l.numbers)
