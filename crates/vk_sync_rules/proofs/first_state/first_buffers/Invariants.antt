-- The lists so far.
use Rattle.std.proofs.Common.{◌≡◌, map, take}
use Rattle.vk_sync_rules.specs.Machines.{zeros_of_buffer}
use Rattle.vk_sync_rules.proofs.first_state.first_buffers.Given as goal

abbrev pub invariant-loop-buffer : goal.invariant-loop-buffer
invariant-loop-buffer l = l.buffers ≡ map zeros_of_buffer (take l.buffer-index l.buffer-items)
