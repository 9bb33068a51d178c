-- What sets of stages and of memory accesses stand for.
use Rattle.std.specs.Prelude.{Bool, ◌==◌, ◌||◌, true, false}
use Rattle.vk_types.specs.declared.accesses.Access.{Access}
use Rattle.vk_types.specs.declared.accesses.Access.TheVariants.{MemoryRead, MemoryWrite, ShaderStorageRead, ShaderStorageWrite, ShaderRead, UniformRead, TransferRead, TransferWrite, HostRead}
use Rattle.vk_types.specs.declared.accesses.Accesses.{Accesses}
use Rattle.vk_types.specs.declared.layouts.VkLayout.{VkLayout}
use Rattle.vk_types.specs.declared.layouts.VkLayout.TheVariants.{Undefined, General, ShaderReadOnlyOptimal, TransferSrcOptimal, TransferDstOptimal}
use Rattle.vk_types.specs.declared.stages.Stage.{Stage}
use Rattle.vk_types.specs.declared.stages.Stages.{Stages}
use Rattle.vk_types.specs.Accesses.{access_bit, has_access}
use Rattle.vk_types.specs.Stages.{meets, only_stage}

-- a set stands for a stage: it has it by name, or as one of ALL_COMMANDS (Vulkan 1.3, 7.1.2)
abbrev pub stands_for_stage : Stages → Stage → Bool
stands_for_stage stages stage = meets stages (only_stage stage)

-- the access that stands for every read, or for every write, with this one among them (Vulkan 1.3, 7.1.3)
abbrev pub memory_access : Access → Access
memory_access MemoryRead = MemoryRead
memory_access MemoryWrite = MemoryWrite
memory_access ShaderStorageRead = MemoryRead
memory_access ShaderStorageWrite = MemoryWrite
memory_access ShaderRead = MemoryRead
memory_access UniformRead = MemoryRead
memory_access TransferRead = MemoryRead
memory_access TransferWrite = MemoryWrite
memory_access HostRead = MemoryRead

-- a set stands for an access: it has it by name, or has MEMORY_READ or MEMORY_WRITE for it
abbrev pub stands_for_access : Accesses → Access → Bool
stands_for_access accesses access = has_access accesses access || has_access accesses (memory_access access)

-- the layout of an image allows an access: GENERAL each, SHADER_READ_ONLY_OPTIMAL the reads of shaders, and the two
-- layouts of transfers theirs (Vulkan 1.3, 12.4)
abbrev pub image_allows : VkLayout → Access → Bool
image_allows Undefined access = false
image_allows General access = true
image_allows ShaderReadOnlyOptimal access = access_bit access == access_bit ShaderRead
image_allows TransferSrcOptimal access = access_bit access == access_bit TransferRead
image_allows TransferDstOptimal access = access_bit access == access_bit TransferWrite
