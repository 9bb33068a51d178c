-- What is left to be put.
use Rattle.std.proofs.Common.{◌≡◌, length}
use Rattle.vk_sync_rules.specs.Dispatches.{after_puts}
use Rattle.vk_sync_rules.specs.Machines.{numbers_of}
use Rattle.vk_sync_rules.proofs.numbers.NumberTable.store_puts.Given as goal

abbrev pub invariant-loop-put : goal.invariant-loop-put
invariant-loop-put l = after_puts l.range l.puts (numbers_of l.initial.self) ≡ after_puts l.range l.rest (numbers_of l.self)

abbrev pub decreases-loop-put : goal.decreases-loop-put
decreases-loop-put l = length l.rest
