-- The pipeline stages of syncs.
use Rattle.std.specs.Prelude.{ℕ}
use Rattle.dx_flags.specs.declared.syncs.Sync.{Sync}
use Rattle.dx_flags.specs.SyncNames.{SyncName, sync_names, NONE, ALL, COMPUTE_SHADING, ALL_SHADING, NON_PIXEL_SHADING, COPY, CLEAR_UNORDERED_ACCESS_VIEW}
use Rattle.dx_flags.specs.Syncs.{sync_has}
use Rattle.vk_types.specs.declared.stages.Stage.{Stage}
use Rattle.vk_types.specs.declared.stages.Stage.TheVariants.{AllCommands, ComputeShader, Copy}
use Rattle.vk_types.specs.declared.stages.Stages.{Stages}
use Rattle.vk_types.specs.Stages.{stage_bit}
use Rattle.lower_tables.specs.Unions.{united}

-- the stage of each sync (Vulkan 1.3, 7.1.2): NONE has all, so that a change of layout is chained to the barriers before
-- and behind it
abbrev pub stage_of_name : SyncName → Stage
stage_of_name NONE = AllCommands
stage_of_name ALL = AllCommands
stage_of_name COMPUTE_SHADING = ComputeShader
stage_of_name ALL_SHADING = ComputeShader
stage_of_name NON_PIXEL_SHADING = ComputeShader
stage_of_name COPY = Copy
stage_of_name CLEAR_UNORDERED_ACCESS_VIEW = ComputeShader

-- the bit of a sync's stage
abbrev pub stage_bit_of_name : SyncName → ℕ
stage_bit_of_name name = stage_bit (stage_of_name name)

-- the stages of a set: those of its syncs
unfoldable pub stage_of : Sync → Stages
stage_of sync = record { 0 = united (sync_has sync) stage_bit_of_name 0 sync_names }
