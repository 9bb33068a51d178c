-- The pieces that are left.
use Rattle.std.proofs.Common.{◌≡◌, length}
use Rattle.std.specs.List.{list_any}
use Rattle.vk_sync_rules.specs.Machines.{state_of}
use Rattle.vk_sync_rules.specs.NextState.{reads_open}
use Rattle.vk_sync_rules.proofs.machine.VkMachine.some_read_open.Given as goal

abbrev pub invariant-loop-piece : goal.invariant-loop-piece
invariant-loop-piece l = list_any (reads_open (state_of l.self) l.site.queue l.site.stages l.site.place) l.pieces ≡ list_any (reads_open (state_of l.self) l.site.queue l.site.stages l.site.place) l.rest

abbrev pub decreases-loop-piece : goal.decreases-loop-piece
decreases-loop-piece l = length l.rest
