-- The lists so far.
use Rattle.std.proofs.Common.{◌≡◌, map, take}
use Rattle.vk_sync_rules.specs.Machines.{first_layouts_of}
use Rattle.vk_sync_rules.proofs.first_state.first_layouts.Given as goal

abbrev pub invariant-loop-image : goal.invariant-loop-image
invariant-loop-image l = l.layouts ≡ map first_layouts_of (take l.image-index l.image-items)
