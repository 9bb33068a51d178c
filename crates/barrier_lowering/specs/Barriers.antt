-- The lowered form of a barrier.
use Rattle.std.specs.Prelude.{ℕ, Bool, not, ◌||◌, ◌==◌, List, Option, Some, None, if◌then◌else◌}
use Rattle.d3d_resources.specs.declared.resources.Resource.{Resource}
use Rattle.dx_flags.specs.declared.layouts.Layout.{Layout}
use Rattle.enhanced_barriers.specs.declared.barriers.Barrier.{Barrier}
use Rattle.enhanced_barriers.specs.declared.barriers.Scope.{Scope}
use Rattle.enhanced_barriers.specs.declared.barriers.Scope.TheVariants as scope
use Rattle.enhanced_barriers.specs.Legal.{is_undefined}
use Rattle.lower_tables.specs.Accesses.{access_of}
use Rattle.lower_tables.specs.Layouts.{layout_of}
use Rattle.lower_tables.specs.Stages.{stage_of}
use Rattle.vk_types.specs.declared.commands.VkCommand.{VkCommand}
use Rattle.vk_types.specs.declared.commands.VkCommand.TheVariants as vk
use Rattle.vk_types.specs.declared.layouts.Change.{Change}
use Rattle.vk_types.specs.declared.layouts.VkLayout.{VkLayout}
use Rattle.vk_types.specs.declared.layouts.VkLayout.TheVariants.{Undefined, General, ShaderReadOnlyOptimal, TransferSrcOptimal, TransferDstOptimal}
use Rattle.barrier_lowering.specs.Numbers.{image_number}

-- the place of an image's layout among all of them
abbrev pub layout_place : VkLayout → ℕ
layout_place Undefined = 0
layout_place General = 1
layout_place ShaderReadOnlyOptimal = 2
layout_place TransferSrcOptimal = 3
layout_place TransferDstOptimal = 4

-- two layouts of images are the same
abbrev pub same_layout : VkLayout → VkLayout → Bool
same_layout a b = layout_place a == layout_place b

-- a texture's barrier between two layouts changes that of its image: the lowered layouts differ, or the one before is
-- UNDEFINED (Vulkan 1.3, 7.7.1: a transition from UNDEFINED need not keep what was there)
abbrev pub is_change : Layout → Layout → Bool
is_change before after = is_undefined before || not (same_layout (layout_of before) (layout_of after))

-- the change of layout of an image between two layouts of its texture, where there is one
abbrev pub change_between : ℕ → Option ℕ → Layout → Layout → Option Change
change_between image sub before after =
    if is_change before after then Some (record { image = image; sub = sub; old = layout_of before; new = layout_of after }) else None

-- the change of layout of a barrier: that of a texture's alone
abbrev pub change_of_scope : List (Option Resource) → Scope → Layout → Layout → Option Change
change_of_scope rs scope.Global before after = None
change_of_scope rs (scope.Buffer id) before after = None
change_of_scope rs (scope.Texture id sub) before after = change_between (image_number rs id.0) sub before after

-- a barrier in Vulkan's words: its syncs become stages, its accesses memory accesses, on both sides
abbrev pub lowered_barrier : List (Option Resource) → Barrier → VkCommand
lowered_barrier rs barrier =
    vk.Barrier
    (stage_of barrier.sync_before)
    (access_of barrier.access_before)
    (stage_of barrier.sync_after)
    (access_of barrier.access_after)
    (change_of_scope rs barrier.scope barrier.layout_before barrier.layout_after)
