-- What sets of pipeline stages stand for.
use Rattle.std.specs.Prelude.{ℕ, Bool, not, ◌==◌, if◌then◌else◌, bit_and, bit_or}
use Rattle.vk_types.specs.declared.stages.Stage.{Stage}
use Rattle.vk_types.specs.declared.stages.Stage.TheVariants.{AllCommands, ComputeShader, Copy, Host}
use Rattle.vk_types.specs.declared.stages.Stages.{Stages}

-- the bits of the stages that a set stands for: ALL_COMMANDS is every stage but HOST (Vulkan 1.3, 7.1.2)
abbrev pub whole : Stages → ℕ
whole stages = if bit_and stages.0 1 == 0 then stages.0 else bit_or stages.0 7

-- two sets have a stage in common
abbrev pub meets : Stages → Stages → Bool
meets one other = not (bit_and (whole one) (whole other) == 0)

-- the bit of a name
abbrev pub stage_bit : Stage → ℕ
stage_bit AllCommands = 1
stage_bit ComputeShader = 2
stage_bit Copy = 4
stage_bit Host = 8

-- a set has this name
abbrev pub has_stage : Stages → Stage → Bool
has_stage stages stage = not (bit_and stages.0 (stage_bit stage) == 0)

-- the set of one name
abbrev pub only_stage : Stage → Stages
only_stage stage = record { 0 = stage_bit stage }

-- the stage in which copies are made (Vulkan 1.3, 7.1.2: VK_PIPELINE_STAGE_2_COPY_BIT)
abbrev pub copy_stage : Stages
copy_stage = only_stage Copy

-- the stage of dispatches and clears (Vulkan 1.3, 7.1.2: VK_PIPELINE_STAGE_2_COMPUTE_SHADER_BIT)
abbrev pub compute_stage : Stages
compute_stage = only_stage ComputeShader
