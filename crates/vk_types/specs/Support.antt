-- Which stages support which accesses (Vulkan 1.3, 7.1.3: supported access types).
use Rattle.std.specs.Prelude.{Bool, true, false, not, ◌&&◌, ◌||◌, List, [], ◌∷◌}
use Rattle.std.specs.List.{list_all, list_any}
use Rattle.vk_types.specs.declared.accesses.Access.{Access}
use Rattle.vk_types.specs.declared.accesses.Access.TheVariants.{MemoryRead, MemoryWrite, ShaderStorageRead, ShaderStorageWrite, ShaderRead, UniformRead, TransferRead, TransferWrite, HostRead}
use Rattle.vk_types.specs.declared.accesses.AccessGroup.{AccessGroup}
use Rattle.vk_types.specs.declared.accesses.AccessGroup.TheVariants as group
use Rattle.vk_types.specs.declared.accesses.Accesses.{Accesses}
use Rattle.vk_types.specs.declared.stages.Stage.{Stage}
use Rattle.vk_types.specs.declared.stages.Stage.TheVariants.{AllCommands, ComputeShader, Copy, Host}
use Rattle.vk_types.specs.declared.stages.Stages.{Stages}
use Rattle.vk_types.specs.Accesses.{has_access, group_of}
use Rattle.vk_types.specs.Stages.{has_stage}

-- all names of stages
abbrev pub all_stages : List Stage
all_stages = AllCommands ∷ ComputeShader ∷ Copy ∷ Host ∷ []

-- all names of accesses
abbrev pub all_accesses : List Access
all_accesses =
    MemoryRead ∷ MemoryWrite ∷ ShaderStorageRead ∷ ShaderStorageWrite ∷ ShaderRead ∷ UniformRead ∷ TransferRead
    ∷ TransferWrite ∷ HostRead ∷ []

-- a stage supports the accesses of a group: every stage those of memory, ALL_COMMANDS all but HOST_READ
abbrev pub supports_group : Stage → AccessGroup → Bool
supports_group AllCommands group.Memory = true
supports_group AllCommands group.Shader = true
supports_group AllCommands group.Transfer = true
supports_group AllCommands group.Host = false
supports_group ComputeShader group.Memory = true
supports_group ComputeShader group.Shader = true
supports_group ComputeShader group.Transfer = false
supports_group ComputeShader group.Host = false
supports_group Copy group.Memory = true
supports_group Copy group.Shader = false
supports_group Copy group.Transfer = true
supports_group Copy group.Host = false
supports_group Host group.Memory = true
supports_group Host group.Shader = false
supports_group Host group.Transfer = false
supports_group Host group.Host = true

-- some stage of a set supports an access
abbrev pub supports_access : Stages → Access → Bool
supports_access stages access = list_any (λ stage. has_stage stages stage && supports_group stage (group_of access)) all_stages

-- each access of a set is supported by some stage of another
abbrev pub supports : Stages → Accesses → Bool
supports stages accesses = list_all (λ access. not (has_access accesses access) || supports_access stages access) all_accesses
