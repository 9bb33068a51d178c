-- The images so far.
use Rattle.std.proofs.Common.{◌≡◌, Some, map, take}
use Rattle.vk_sync_rules.specs.Sizes.{each_word}
use Rattle.vk_sync_rules.proofs.first_state.first_images.Given as goal

abbrev pub invariant-loop-image : goal.invariant-loop-image
invariant-loop-image l = l.images ≡ map (each_word (Some 0)) (take l.image-index l.image-items)
