-- What recorded commands become on the device.
use Rattle.std.specs.Prelude.{ℕ, ◌*◌, ◌/◌, ◌^◌, ◌&&◌, nat_lt, Bool, true, List, [], ◌∷◌, length, slice_index_or, Option, Some, None}
use Rattle.std.specs.List.{list_all}
use Rattle.d3d_resources.specs.declared.resources.Resource.{Resource}
use Rattle.d3d_resources.specs.declared.resources.Resource.TheVariants.{Buffer, Texture}
use Rattle.enhanced_barriers.specs.declared.barriers.Scope.{Scope}
use Rattle.enhanced_barriers.specs.declared.barriers.Scope.TheVariants as scope
use Rattle.vk_types.specs.declared.commands.VkCommand.{VkCommand}
use Rattle.vk_types.specs.declared.commands.VkCommand.TheVariants as vk
use Rattle.vk_types.specs.declared.layouts.VkLayout.{VkLayout}
use Rattle.barrier_lowering.specs.declared.records.Record.{Record}
use Rattle.barrier_lowering.specs.declared.records.Record.TheVariants.{Copy, CopyTexture, CopyIn, CopyOut, Barrier}
use Rattle.barrier_lowering.specs.Barriers.{lowered_barrier}
use Rattle.barrier_lowering.specs.Layouts.{layout_at, layouts_after_command}
use Rattle.barrier_lowering.specs.Numbers.{buffer_number, image_number}

-- a recorded command in Vulkan's words, beside these layouts: ids become numbers, bytes become words, and a copy names the layout
-- of each subresource as it is
abbrev pub lowered_record : List (Option Resource) → List (List VkLayout) → Record → VkCommand
lowered_record rs layouts (Copy to to_offset from from_offset bytes) =
    vk.Copy (buffer_number rs to.0) (to_offset / 4) (buffer_number rs from.0) (from_offset / 4) (bytes / 4)
lowered_record rs layouts (CopyTexture to to_sub from from_sub) =
    vk.CopyImage
    (image_number rs to.0)
    to_sub
    (layout_at layouts (image_number rs to.0) to_sub)
    (image_number rs from.0)
    from_sub
    (layout_at layouts (image_number rs from.0) from_sub)
lowered_record rs layouts (CopyIn to sub from offset pitch) =
    vk.CopyIn (image_number rs to.0) sub (layout_at layouts (image_number rs to.0) sub) (buffer_number rs from.0) (offset / 4) (pitch / 4)
lowered_record rs layouts (CopyOut to offset pitch from sub) =
    vk.CopyOut (buffer_number rs to.0) (offset / 4) (pitch / 4) (image_number rs from.0) sub (layout_at layouts (image_number rs from.0) sub)
lowered_record rs layouts (Barrier barrier) = lowered_barrier rs barrier

-- recorded commands in Vulkan's words: each beside the layouts after all those before it
abbrev pub lowered_commands : List (Option Resource) → List (List VkLayout) → List Record → List VkCommand
lowered_commands rs layouts [] = []
lowered_commands rs layouts (what ∷ more) =
    lowered_record rs layouts what ∷ lowered_commands rs (layouts_after_command (lowered_record rs layouts what) layouts) more

-- how many subresources a live texture has; nothing else has one here
abbrev pub sub_count : Option Resource → ℕ
sub_count None = 0
sub_count (Some (Buffer home words)) = 0
sub_count (Some (Texture start width height mips layers shared)) = mips * layers

-- an id names a resource
abbrev pub is_there : List (Option Resource) → ℕ → Bool
is_there rs id = nat_lt id (length rs)

-- an id names a live texture that has a subresource
abbrev pub has_sub : List (Option Resource) → ℕ → ℕ → Bool
has_sub rs id sub = is_there rs id && (nat_lt sub (2 ^ 32) && nat_lt sub (sub_count (slice_index_or rs id None)))

-- an offset, a pitch or a size whose words are numbered by 32 bits
abbrev pub is_small : ℕ → Bool
is_small bytes = nat_lt (bytes / 4) (2 ^ 32)

-- the scope of a barrier names what there is
abbrev pub is_scope_there : List (Option Resource) → Scope → Bool
is_scope_there rs scope.Global = true
is_scope_there rs (scope.Buffer id) = true
is_scope_there rs (scope.Texture id sub) = is_there rs id.0

-- a command as it can have been recorded: it names resources and subresources that there are, and its words are numbered by 32
-- bits
abbrev pub is_recorded : List (Option Resource) → Record → Bool
is_recorded rs (Copy to to_offset from from_offset bytes) =
    (is_there rs to.0 && is_there rs from.0) && (is_small to_offset && (is_small from_offset && is_small bytes))
is_recorded rs (CopyTexture to to_sub from from_sub) = has_sub rs to.0 to_sub && has_sub rs from.0 from_sub
is_recorded rs (CopyIn to sub from offset pitch) = (has_sub rs to.0 sub && is_there rs from.0) && (is_small offset && is_small pitch)
is_recorded rs (CopyOut to offset pitch from sub) = (is_there rs to.0 && has_sub rs from.0 sub) && (is_small offset && is_small pitch)
is_recorded rs (Barrier barrier) = is_scope_there rs barrier.scope

-- each of a list is one
abbrev pub are_recorded : List (Option Resource) → List Record → Bool
are_recorded rs all = list_all (is_recorded rs) all
