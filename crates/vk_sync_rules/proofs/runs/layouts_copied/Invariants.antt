-- The layouts so far.
use Rattle.std.proofs.Common.{◌≡◌, take}
use Rattle.vk_sync_rules.proofs.runs.layouts_copied.Given as goal

abbrev pub invariant-loop-image : goal.invariant-loop-image
invariant-loop-image l = l.copy ≡ take l.image-index l.layouts
