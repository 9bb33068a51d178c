-- The rows that are left.
use Rattle.std.proofs.Common.{◌≡◌, length}
use Rattle.vk_sync_rules.specs.Machines.{numbers_of, state_of}
use Rattle.vk_sync_rules.specs.NextState.{rows_stored}
use Rattle.vk_sync_rules.proofs.machine.VkMachine.store_rows.Given as goal

abbrev pub invariant-loop-row : goal.invariant-loop-row
invariant-loop-row l = rows_stored (state_of l.self) l.site.queue l.site.stages l.site.place l.rows (numbers_of l.initial.numbers) ≡ rows_stored (state_of l.self) l.site.queue l.site.stages l.site.place l.rest (numbers_of l.numbers)

abbrev pub decreases-loop-row : goal.decreases-loop-row
decreases-loop-row l = length l.rest
