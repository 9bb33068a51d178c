-- The stages and the memory accesses of resource states.
use Rattle.std.specs.Prelude.{ℕ, List, [], ◌∷◌}
use Rattle.dx_flags.specs.declared.states.State.{State}
use Rattle.dx_flags.specs.AccessNames as access
use Rattle.dx_flags.specs.StateNames.{StateName, state_names, COMMON, VERTEX_AND_CONSTANT_BUFFER, NON_PIXEL_SHADER_RESOURCE, PIXEL_SHADER_RESOURCE, COPY_SOURCE, COPY_DEST, UNORDERED_ACCESS}
use Rattle.dx_flags.specs.States.{state_has}
use Rattle.vk_types.specs.declared.accesses.Access.{Access as VkAccess}
use Rattle.vk_types.specs.declared.accesses.Access.TheVariants.{ShaderRead, UniformRead}
use Rattle.vk_types.specs.declared.accesses.Accesses.{Accesses}
use Rattle.vk_types.specs.declared.stages.Stage.{Stage}
use Rattle.vk_types.specs.declared.stages.Stage.TheVariants.{AllCommands, ComputeShader, Copy}
use Rattle.vk_types.specs.declared.stages.Stages.{Stages}
use Rattle.vk_types.specs.Stages.{stage_bit}
use Rattle.lower_tables.specs.Accesses.{accesses_of_name, bits_of}
use Rattle.lower_tables.specs.Unions.{united}

-- the stage of each state
abbrev pub stage_of_state : StateName → Stage
stage_of_state COMMON = AllCommands
stage_of_state VERTEX_AND_CONSTANT_BUFFER = ComputeShader
stage_of_state NON_PIXEL_SHADER_RESOURCE = ComputeShader
stage_of_state PIXEL_SHADER_RESOURCE = ComputeShader
stage_of_state COPY_SOURCE = Copy
stage_of_state COPY_DEST = Copy
stage_of_state UNORDERED_ACCESS = ComputeShader

-- the memory accesses of each state
abbrev pub accesses_of_state : StateName → List VkAccess
accesses_of_state COMMON = accesses_of_name access.COMMON
accesses_of_state VERTEX_AND_CONSTANT_BUFFER = UniformRead ∷ []
accesses_of_state NON_PIXEL_SHADER_RESOURCE = ShaderRead ∷ []
accesses_of_state PIXEL_SHADER_RESOURCE = ShaderRead ∷ []
accesses_of_state COPY_SOURCE = accesses_of_name access.COPY_SOURCE
accesses_of_state COPY_DEST = accesses_of_name access.COPY_DEST
accesses_of_state UNORDERED_ACCESS = accesses_of_name access.UNORDERED_ACCESS

-- the bit of a state's stage
abbrev pub stage_bit_of_state : StateName → ℕ
stage_bit_of_state name = stage_bit (stage_of_state name)

-- the bits of a state's memory accesses
abbrev pub access_bits_of_state : StateName → ℕ
access_bits_of_state name = bits_of (accesses_of_state name)

-- the stages of a union of states: those of its states
unfoldable pub state_stages : State → Stages
state_stages state = record { 0 = united (state_has state) stage_bit_of_state 0 state_names }

-- the memory accesses of a union of states: those of its states
unfoldable pub state_accesses : State → Accesses
state_accesses state = record { 0 = united (state_has state) access_bits_of_state 0 state_names }

-- a barrier's side that stands for a state: stages and accesses, of a union the unions
abbrev pub state_of : State → Stages × Accesses
state_of state = (state_stages state, state_accesses state)
