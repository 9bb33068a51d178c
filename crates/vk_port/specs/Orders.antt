-- The order of the commands of one queue (Vulkan 1.3, 7.1: execution dependencies).
use Rattle.std.specs.Prelude.{Bool, false, not, List}
use Rattle.std.specs.List.{list_all}
use Rattle.vk_types.specs.declared.commands.VkCommand.{VkCommand}
use Rattle.vk_types.specs.declared.commands.VkCommand.TheVariants.{Barrier, Copy, CopyImage, CopyIn, CopyOut, Clear, Dispatch}
use Rattle.vk_types.specs.declared.stages.Stages.{Stages}
use Rattle.vk_types.specs.Stages.{meets, copy_stage, compute_stage}

-- the stages by which a command waits for barriers before it: its own; of a barrier, its source stages
abbrev pub stages_of : VkCommand → Stages
stages_of (Barrier from made to seen change) = from
stages_of (Copy to to_first from from_first words) = copy_stage
stages_of (CopyImage to to_sub to_layout from from_sub from_layout) = copy_stage
stages_of (CopyIn image sub layout buffer first pitch) = copy_stage
stages_of (CopyOut buffer first pitch image sub layout) = copy_stage
stages_of (Clear target word) = compute_stage
stages_of (Dispatch routine count t0 t1 u0 b0) = compute_stage

-- a later command waits for one of these stages that is no barrier: it is a barrier, and its source stages meet them
abbrev pub waits_for : VkCommand → Stages → Bool
waits_for (Barrier from made to seen change) stages = meets stages from
waits_for (Copy to to_first from from_first words) stages = false
waits_for (CopyImage to to_sub to_layout from from_sub from_layout) stages = false
waits_for (CopyIn image sub layout buffer first pitch) stages = false
waits_for (CopyOut buffer first pitch image sub layout) stages = false
waits_for (Clear target word) stages = false
waits_for (Dispatch routine count t0 t1 u0 b0) stages = false

-- a command must be done before a later one of its queue: it is a barrier, and its destination stages meet
-- those of the later one; or the later one is a barrier, and its source stages meet the command's
abbrev pub orders : VkCommand → VkCommand → Bool
orders (Barrier from made to seen change) later = meets to (stages_of later)
orders (Copy to to_first from from_first words) later = waits_for later copy_stage
orders (CopyImage to to_sub to_layout from from_sub from_layout) later = waits_for later copy_stage
orders (CopyIn image sub layout buffer first pitch) later = waits_for later copy_stage
orders (CopyOut buffer first pitch image sub layout) later = waits_for later copy_stage
orders (Clear target word) later = waits_for later compute_stage
orders (Dispatch routine count t0 t1 u0 b0) later = waits_for later compute_stage

-- a command may be done, where these earlier ones of its queue are not done
abbrev pub can_run : List VkCommand → VkCommand → Bool
can_run before command = list_all (λ e. not (orders e command)) before
