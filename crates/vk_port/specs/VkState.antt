-- What of the Vulkan machine's state its steps depend on, as steps are offered.
use Rattle.std.specs.Prelude.{ℕ, List, [], replicate, slice_index_or}
use Rattle.vk_types.specs.declared.batches.Batch.{Batch}
use Rattle.vk_port.specs.declared.lanes.Lane.{Lane}
use Rattle.vk_types.specs.declared.plan.DevicePlan.{DevicePlan}

-- the part of the Vulkan machine's state that says which steps can be taken; `shown` computes it
pub record VkState : Type 0 where
  -- the value of each timeline semaphore
  pub timelines : List ℕ
  -- all batches that were submitted, oldest first
  pub journal : List Batch
  -- the unfinished batches of each queue
  pub lanes : List Lane

-- the lane of a queue with no unfinished batch
abbrev pub no_lane : Lane
no_lane = record { batches = []; passed = 0 }

-- the state in which a device of a plan begins: its timelines are 0, and nothing is submitted
abbrev pub first_state : DevicePlan → VkState
first_state plan = record {
  timelines = replicate plan.timelines 0;
  journal = [];
  lanes = replicate plan.queues no_lane;
}

-- the value of a timeline; 0 for one that is not there
abbrev pub counter_of : VkState → ℕ → ℕ
counter_of v timeline = slice_index_or v.timelines timeline 0

-- the lane of a queue; an empty one for a queue that is not there
abbrev pub lane_of : VkState → ℕ → Lane
lane_of v q = slice_index_or v.lanes q no_lane
