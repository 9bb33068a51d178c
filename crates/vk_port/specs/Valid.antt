-- What every state of the Vulkan machine keeps.
use Rattle.std.specs.Prelude.{ℕ, ◌≡◌, ◌≤◌, ◌==◌, Bool, true, List, [], map, length, drop}
use Rattle.std.specs.List.{list_all}
use Rattle.vk_types.specs.declared.batches.Batch.{Batch}
use Rattle.vk_port.specs.declared.lanes.Lane.{Lane}
use Rattle.vk_port.specs.declared.lanes.Running.{Running}
use Rattle.vk_types.specs.declared.plan.DevicePlan.{DevicePlan}
use Rattle.vk_port.specs.VkState.{VkState, lane_of}
use Rattle.vk_port.specs.Journal.{of_queue, first_number, are_numbered}

-- each command of a batch has a mark
abbrev pub is_marked : Running → Bool
is_marked running = length running.done == length running.batch.commands

-- the batch of an unfinished one
abbrev pub batch_of : Running → Batch
batch_of running = running.batch

-- the lane of queue q, after these batches were submitted to it
pub record IsLane (submitted : List Batch) (lane : Lane) : Type 0 where
  -- how many batches of the queue have ended
  pub finished : ℕ
  pub ended : finished ≤ length submitted
  pub are_last : map batch_of lane.batches ≡ drop finished submitted
  pub passed : lane.passed ≤ length lane.batches
  pub marked : list_all is_marked lane.batches ≡ true

-- the lanes have the last batches of the journal, which are numbered without a gap
pub record IsValid (v : VkState) : Type 0 where
  pub lanes : (q : ℕ) → IsLane (of_queue q v.journal) (lane_of v q)
  pub numbered : (q : ℕ) → are_numbered (first_number q) (of_queue q v.journal) ≡ true

-- so do lanes with a journal: timelines are not asked
abbrev pub AreValidLanes : List Batch → List Lane → Type 0
AreValidLanes journal lanes = IsValid (record { timelines = []; journal = journal; lanes = lanes })

-- a state has the queues and the timelines of the plan
pub record Matches (plan : DevicePlan) (v : VkState) : Type 0 where
  pub lanes : length v.lanes ≡ plan.queues
  pub timelines : length v.timelines ≡ plan.timelines
