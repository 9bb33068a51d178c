-- The plans that devices make so far.
use Rattle.std.specs.Prelude.{Bool, ◌==◌, ◌&&◌, length}
use Rattle.vk_types.specs.declared.plan.DevicePlan.{DevicePlan}

-- a plan has no images, no heaps and no views
abbrev pub has_only_buffers : DevicePlan → Bool
has_only_buffers plan = (length plan.images == 0) && ((length plan.heaps == 0) && (length plan.views == 0))
