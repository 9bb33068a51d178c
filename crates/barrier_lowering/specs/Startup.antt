-- The start-up batch: what brings each image from UNDEFINED into its first layout.
use Rattle.std.specs.Prelude.{ℕ, zero, suc, ◌+◌, ◌*◌, Bool, true, List, [], ◌∷◌, ◌++◌, Option, Some, None, bit_or}
use Rattle.std.specs.List.{list_all}
use Rattle.d3d_resources.specs.declared.resources.Resource.{Resource}
use Rattle.d3d_resources.specs.declared.resources.Resource.TheVariants.{Buffer, Texture}
use Rattle.d3d_resources.specs.Resources.{is_resource}
use Rattle.vk_types.specs.declared.accesses.Access.TheVariants.{MemoryRead, MemoryWrite}
use Rattle.vk_types.specs.declared.commands.VkCommand.{VkCommand}
use Rattle.vk_types.specs.declared.commands.VkCommand.TheVariants.{Barrier}
use Rattle.vk_types.specs.declared.layouts.VkLayout.{VkLayout}
use Rattle.vk_types.specs.declared.layouts.VkLayout.TheVariants.{Undefined}
use Rattle.vk_types.specs.declared.stages.Stage.TheVariants.{AllCommands}
use Rattle.vk_types.specs.Accesses.{access_bit}
use Rattle.vk_types.specs.Stages.{only_stage}
use Rattle.barrier_lowering.specs.Layouts.{first_layout}

-- each live resource is a valid one
abbrev pub is_valid : Option Resource → Bool
is_valid None = true
is_valid (Some resource) = is_resource resource

abbrev pub are_valid : List (Option Resource) → Bool
are_valid rs = list_all is_valid rs

-- how many images a resource is: a live texture is one
abbrev pub images_of : Option Resource → ℕ
images_of None = 0
images_of (Some (Buffer home words)) = 0
images_of (Some (Texture start width height mips layers shared)) = 1

-- the start-up's barrier of one subresource: from UNDEFINED to its first layout, from all commands with no access to all with
-- reads and writes of memory
abbrev pub startup_barrier : ℕ → ℕ → VkLayout → VkCommand
startup_barrier image sub layout =
    Barrier
    (only_stage AllCommands)
    (record { 0 = 0 })
    (only_stage AllCommands)
    (record { 0 = bit_or (access_bit MemoryRead) (access_bit MemoryWrite) })
    (Some (record { image = image; sub = Some sub; old = Undefined; new = layout }))

-- the start-up's barriers of an image, of so many subresources from one on
abbrev pub startup_of_image : ℕ → VkLayout → ℕ → ℕ → List VkCommand
startup_of_image image layout sub zero = []
startup_of_image image layout sub (suc count) = startup_barrier image sub layout ∷ startup_of_image image layout (sub + 1) count

-- the start-up's barriers of the live textures, the first of which has this number: one for each subresource, in order
abbrev pub startup_from : ℕ → List (Option Resource) → List VkCommand
startup_from image [] = []
startup_from image (None ∷ rs) = startup_from image rs
startup_from image (Some (Buffer home words) ∷ rs) = startup_from image rs
startup_from image (Some (Texture start width height mips layers shared) ∷ rs) =
    startup_of_image image (first_layout start) 0 (mips * layers) ++ startup_from (image + 1) rs

-- the commands of the start-up batch
abbrev pub startup_commands : List (Option Resource) → List VkCommand
startup_commands rs = startup_from 0 rs
