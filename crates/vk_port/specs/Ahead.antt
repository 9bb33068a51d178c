-- What commands that are not done hold back, summed up in bits of stages.
use Rattle.std.specs.Prelude.{ℕ, ◌+◌, ◌==◌, Bool, true, false, List, [], ◌∷◌, ◌++◌, bit_and, bit_or}
use Rattle.vk_port.specs.declared.ahead.Ahead.{Ahead}
use Rattle.vk_types.specs.declared.commands.VkCommand.{VkCommand}
use Rattle.vk_types.specs.declared.commands.VkCommand.TheVariants.{Barrier, Copy, CopyImage, CopyIn, CopyOut, Clear, Dispatch}
use Rattle.vk_port.specs.declared.lanes.Running.{Running}
use Rattle.vk_port.specs.declared.steps.Stepped.{Stepped}
use Rattle.vk_port.specs.declared.steps.Stepped.TheVariants.{Ran}
use Rattle.vk_port.specs.Enabled.{undone}
use Rattle.vk_port.specs.Found.{one_if}
use Rattle.vk_types.specs.declared.stages.Stages.{Stages}
use Rattle.vk_types.specs.Stages.{whole, copy_stage, compute_stage}

-- no commands
abbrev pub no_ahead : Ahead
no_ahead = record { to = 0; by = 0 }

-- one more command that is no barrier, of these stages
abbrev pub with_stages : Ahead → Stages → Ahead
with_stages ahead stages = record ahead { by = bit_or ahead.by (whole stages) }

-- one more command
abbrev pub with_command : Ahead → VkCommand → Ahead
with_command ahead (Barrier from made to seen change) = record ahead { to = bit_or ahead.to (whole to) }
with_command ahead (Copy to to_first from from_first words) = with_stages ahead copy_stage
with_command ahead (CopyImage to to_sub to_layout from from_sub from_layout) = with_stages ahead copy_stage
with_command ahead (CopyIn image sub layout buffer first pitch) = with_stages ahead copy_stage
with_command ahead (CopyOut buffer first pitch image sub layout) = with_stages ahead copy_stage
with_command ahead (Clear target word) = with_stages ahead compute_stage
with_command ahead (Dispatch routine count t0 t1 u0 b0) = with_stages ahead compute_stage

-- more commands
abbrev pub summary : Ahead → List VkCommand → Ahead
summary ahead [] = ahead
summary ahead (c ∷ cs) = summary (with_command ahead c) cs

-- a later command that is no barrier, of these stages, may be done
abbrev pub lets_stages : Ahead → Stages → Bool
lets_stages ahead stages = bit_and ahead.to (whole stages) == 0

-- a later command may be done
abbrev pub lets : Ahead → VkCommand → Bool
lets ahead (Barrier from made to seen change) = bit_and (bit_or ahead.to ahead.by) (whole from) == 0
lets ahead (Copy to to_first from from_first words) = lets_stages ahead copy_stage
lets ahead (CopyImage to to_sub to_layout from from_sub from_layout) = lets_stages ahead copy_stage
lets ahead (CopyIn image sub layout buffer first pitch) = lets_stages ahead copy_stage
lets ahead (CopyOut buffer first pitch image sub layout) = lets_stages ahead copy_stage
lets ahead (Clear target word) = lets_stages ahead compute_stage
lets ahead (Dispatch routine count t0 t1 u0 b0) = lets_stages ahead compute_stage

-- the step of one command
abbrev pub command_step : ℕ → ℕ → ℕ → Ahead → VkCommand → List Stepped
command_step q n k ahead command = one_if (lets ahead command) (Ran q n k)

-- the steps of the commands of a batch from place k on
abbrev pub batch_steps : ℕ → ℕ → ℕ → Ahead → List VkCommand → List Bool → List Stepped
batch_steps q n k ahead [] done = []
batch_steps q n k ahead (c ∷ cs) [] = []
batch_steps q n k ahead (c ∷ cs) (true ∷ done) = batch_steps q n (k + 1) ahead cs done
batch_steps q n k ahead (c ∷ cs) (false ∷ done) =
    command_step q n k ahead c ++ batch_steps q n (k + 1) (with_command ahead c) cs done

-- the steps of the commands of batches
abbrev pub lane_steps : ℕ → Ahead → List Running → List Stepped
lane_steps q ahead [] = []
lane_steps q ahead (r ∷ rs) =
    batch_steps q r.batch.number 1 ahead r.batch.commands r.done ++ lane_steps q (summary ahead (undone r)) rs
