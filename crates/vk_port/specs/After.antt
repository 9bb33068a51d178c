-- What the steps of the Vulkan machine depend on after a step and a submission, and the words after a command.
use Rattle.std.specs.Prelude.{ℕ, suc, ◌+◌, ◌-◌, ◌==◌, true, false, List, [], ◌∷◌, ◌++◌, length, drop, replicate, slice_get, slice_set, slice_index_or, Option, Some, None, if◌then◌else◌}
use Rattle.dx_base.specs.Lists.{changed_at}
pub use Rattle.dx_base.specs.Lists.{put, range_of}
use Rattle.vk_types.specs.declared.batches.Batch.{Batch}
pub use Rattle.vk_types.specs.Timelines.{after_sets}
use Rattle.vk_types.specs.declared.commands.VkCommand.{VkCommand}
use Rattle.vk_types.specs.declared.commands.VkCommand.TheVariants.{Barrier, Copy, CopyImage, CopyIn, CopyOut, Clear, Dispatch}
use Rattle.vk_port.specs.declared.lanes.Lane.{Lane}
use Rattle.vk_port.specs.declared.lanes.Running.{Running}
use Rattle.vk_port.specs.declared.steps.Stepped.{Stepped}
use Rattle.vk_port.specs.declared.steps.Stepped.TheVariants.{Passed, Ran, Bumped, Free}
use Rattle.vk_port.specs.VkState.{VkState, lane_of}

-- the words of all buffers after a command: a copy (Vulkan 1.3, 19.2) writes those of its words that lie inside
-- both buffers, a barrier none; what the others do is not said yet, and no device is given one
abbrev pub after_command : VkCommand → List (List ℕ) → List (List ℕ)
after_command (Barrier from made to seen change) words = words
after_command (Copy to to_first from from_first count) words =
    changed_at (put to_first (range_of from_first count (slice_index_or words from []))) to words
after_command (CopyImage to to_sub to_layout from from_sub from_layout) words = words
after_command (CopyIn image sub layout buffer first pitch) words = words
after_command (CopyOut buffer first pitch image sub layout) words = words
after_command (Clear target word) words = words
after_command (Dispatch routine count t0 t1 u0 b0) words = words

-- the words of all buffers after a command that may be missing
abbrev pub after_found : Option VkCommand → List (List ℕ) → List (List ℕ)
after_found None words = words
after_found (Some command) words = after_command command words

-- the place of the first batch of a number; their count, where there is none
abbrev pub place_of : ℕ → List Running → ℕ
place_of n [] = 0
place_of n (r ∷ rs) = if r.batch.number == n then 0 else suc (place_of n rs)

-- the commands of a batch that may be missing
abbrev pub found_commands : Option Running → List VkCommand
found_commands None = []
found_commands (Some running) = running.batch.commands

-- command k, counted from 1, of the batch of number n
abbrev pub command_at : ℕ → ℕ → List Running → Option VkCommand
command_at n k batches = slice_get (found_commands (slice_get batches (place_of n batches))) (k - 1)

-- a batch with its command k, counted from 1, done
abbrev pub with_done : ℕ → Running → Running
with_done k running = record running { done = slice_set running.done (k - 1) true }

-- a lane with command k of the batch of number n done
abbrev pub lane_after_run : ℕ → ℕ → Lane → Lane
lane_after_run n k lane = record lane { batches = changed_at (with_done k) (place_of n lane.batches) lane.batches }

-- a lane of which one more batch has passed
abbrev pub lane_after_pass : Lane → Lane
lane_after_pass lane = record lane { passed = lane.passed + 1 }

-- a lane whose first batch has ended
abbrev pub lane_after_bump : Lane → Lane
lane_after_bump lane = record lane { batches = drop 1 lane.batches; passed = lane.passed - 1 }

-- what the first batch of a lane sets at its end
abbrev pub sets_of : Lane → List (ℕ × ℕ)
sets_of lane = elim (slice_get lane.batches 0) [ None ↦ [] | Some first ↦ first.batch.sets ]

-- the state after a step
abbrev pub after_step : VkState → Stepped → VkState
after_step v (Passed q n) = record v { lanes = changed_at lane_after_pass q v.lanes }
after_step v (Ran q n k) = record v {
  lanes = changed_at (lane_after_run n k) q v.lanes;
}
after_step v (Bumped q n) = record v {
  timelines = after_sets (sets_of (lane_of v q)) v.timelines;
  lanes = changed_at lane_after_bump q v.lanes;
}
after_step v Free = v

-- a batch of which no command is done
abbrev pub started : Batch → Running
started b = record { batch = b; done = replicate (length b.commands) false }

-- a lane with one more batch
abbrev pub with_batch : Running → Lane → Lane
with_batch running lane = record lane { batches = lane.batches ++ running ∷ [] }

-- a lane to which a batch was submitted
abbrev pub lane_after_submit : Batch → Lane → Lane
lane_after_submit b lane = with_batch (started b) lane

-- the state after a submission (Vulkan 1.3, 6.5)
abbrev pub after_submit : VkState → Batch → VkState
after_submit v b = record v { journal = v.journal ++ b ∷ []; lanes = changed_at (lane_after_submit b) b.queue v.lanes }
