-- The steps that the Vulkan machine can take.
use Rattle.std.specs.Prelude.{ℕ, ◌+◌, Bool, true, false, ◌&&◌, List, [], ◌∷◌, ◌++◌, take, nat_lt, slice_get, Some, None, if◌then◌else◌}
use Rattle.std.specs.List.{list_all}
use Rattle.vk_types.specs.declared.commands.VkCommand.{VkCommand}
pub use Rattle.vk_types.specs.Timelines.{reached}
use Rattle.vk_port.specs.declared.lanes.Lane.{Lane}
use Rattle.vk_port.specs.declared.lanes.Running.{Running}
use Rattle.vk_port.specs.declared.steps.Stepped.{Stepped}
use Rattle.vk_port.specs.declared.steps.Stepped.TheVariants.{Passed, Ran, Bumped}
use Rattle.vk_port.specs.VkState.{VkState}
use Rattle.vk_port.specs.Orders.{can_run}

-- the pass of the next batch of a lane, where its waits are reached
abbrev pub ready_pass : List ℕ → ℕ → Lane → List Stepped
ready_pass timelines q lane =
    elim (slice_get lane.batches lane.passed) [
      | None ↦ []
      | Some next ↦ if reached timelines next.batch.waits then Passed q next.batch.number ∷ [] else []
    ]

-- the passes of the lanes, the first of which is that of queue q
abbrev pub passes : List ℕ → ℕ → List Lane → List Stepped
passes timelines q [] = []
passes timelines q (lane ∷ lanes) = ready_pass timelines q lane ++ passes timelines (q + 1) lanes

-- those of some commands that are not marked as done
abbrev pub unmarked : List VkCommand → List Bool → List VkCommand
unmarked [] done = []
unmarked (c ∷ cs) [] = []
unmarked (c ∷ cs) (true ∷ done) = unmarked cs done
unmarked (c ∷ cs) (false ∷ done) = c ∷ unmarked cs done

-- the commands of a batch that are not done, in order
abbrev pub undone : Running → List VkCommand
undone running = unmarked running.batch.commands running.done

-- the step of one command, where these earlier commands are not done
abbrev pub ready_command : ℕ → ℕ → ℕ → List VkCommand → VkCommand → List Stepped
ready_command q n k before command = if can_run before command then Ran q n k ∷ [] else []

-- the steps of the commands of batch n of queue q from place k on
abbrev pub batch_commands : ℕ → ℕ → ℕ → List VkCommand → List VkCommand → List Bool → List Stepped
batch_commands q n k before [] done = []
batch_commands q n k before (c ∷ cs) [] = []
batch_commands q n k before (c ∷ cs) (true ∷ done) = batch_commands q n (k + 1) before cs done
batch_commands q n k before (c ∷ cs) (false ∷ done) =
    ready_command q n k before c ++ batch_commands q n (k + 1) (before ++ c ∷ []) cs done

-- the steps of the commands of batches of queue q, before which these commands are not done
abbrev pub lane_commands : ℕ → List VkCommand → List Running → List Stepped
lane_commands q before [] = []
lane_commands q before (r ∷ rs) =
    batch_commands q r.batch.number 1 before r.batch.commands r.done ++ lane_commands q (before ++ undone r) rs

-- the steps of the commands of the lanes, the first of which is that of queue q; only a batch that has passed
-- has its commands run
abbrev pub commands : ℕ → List Lane → List Stepped
commands q [] = []
commands q (lane ∷ lanes) = lane_commands q [] (take lane.passed lane.batches) ++ commands (q + 1) lanes

-- all commands of a batch are done
abbrev pub all_done : Running → Bool
all_done running = list_all (λ mark. mark) running.done

-- the end of the first unfinished batch of a lane, where it has passed and its commands are done
abbrev pub ready_bump : ℕ → Lane → List Stepped
ready_bump q lane =
    elim (slice_get lane.batches 0) [
      | None ↦ []
      | Some first ↦ if nat_lt 0 lane.passed && all_done first then Bumped q first.batch.number ∷ [] else []
    ]

-- the ends of batches of the lanes, the first of which is that of queue q
abbrev pub bumps : ℕ → List Lane → List Stepped
bumps q [] = []
bumps q (lane ∷ lanes) = ready_bump q lane ++ bumps (q + 1) lanes

-- all steps that can be taken: the passes by queue, the commands by queue, batch and place, the ends of batches
-- by queue
abbrev pub enabled_steps : VkState → List Stepped
enabled_steps v = passes v.timelines 0 v.lanes ++ (commands 0 v.lanes ++ bumps 0 v.lanes)
