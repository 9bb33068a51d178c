-- What it means that a step can be taken.
use Rattle.std.specs.Prelude.{ℕ, ◌≡◌, ◌-◌, ◌<◌, ◌≤◌, ◌⊎◌, true, false, slice_get, Some}
use Rattle.vk_types.specs.declared.commands.VkCommand.{VkCommand}
use Rattle.vk_port.specs.declared.lanes.Lane.{Lane}
use Rattle.vk_port.specs.declared.lanes.Running.{Running}
use Rattle.vk_port.specs.declared.steps.Stepped.{Stepped}
use Rattle.vk_port.specs.declared.steps.Stepped.TheVariants.{Passed, Ran, Bumped, Free}
use Rattle.vk_port.specs.VkState.{VkState}
use Rattle.vk_port.specs.Enabled.{reached, all_done}
use Rattle.vk_port.specs.Orders.{orders}

-- the next batch of queue q has number n, and its waits are reached
pub record IsPass (v : VkState) (q n : ℕ) : Type 0 where
  pub lane : Lane
  pub there : slice_get v.lanes q ≡ Some lane
  pub next : Running
  pub is_next : slice_get lane.batches lane.passed ≡ Some next
  pub number : next.batch.number ≡ n
  pub waits : reached v.timelines next.batch.waits ≡ true

-- a command of a lane is not done; it is at a place in the batch at a place of the lane, both counted from 0
pub record IsUndone (lane : Lane) (place at : ℕ) (command : VkCommand) : Type 0 where
  pub running : Running
  pub is_running : slice_get lane.batches place ≡ Some running
  pub is_command : slice_get running.batch.commands at ≡ Some command
  pub left : slice_get running.done at ≡ Some false

-- a place in a lane is before another: in an earlier batch, or earlier in the same one
abbrev pub IsBefore : ℕ → ℕ → ℕ → ℕ → Type 0
IsBefore first_place first_at place at = (first_place < place) ⊎ ((first_place ≡ place) × (first_at < at))

-- no earlier command of the lane that is not done has to be done before this one (Vulkan 1.3, 7.1)
abbrev pub IsInOrder : Lane → ℕ → ℕ → VkCommand → Type 0
IsInOrder lane place at command =
    (first_place first_at : ℕ) (first : VkCommand) → IsUndone lane first_place first_at first →
    IsBefore first_place first_at place at → orders first command ≡ false

-- a batch of queue q that has passed has number n, its command k, counted from 1, is not done, and each earlier command
-- that has to be done before it is done
pub record IsCommand (v : VkState) (q n k : ℕ) : Type 0 where
  pub lane : Lane
  pub there : slice_get v.lanes q ≡ Some lane
  -- the place of the batch in the lane
  pub place : ℕ
  pub passed : place < lane.passed
  pub running : Running
  pub is_running : slice_get lane.batches place ≡ Some running
  pub number : running.batch.number ≡ n
  pub counted : 1 ≤ k
  pub command : VkCommand
  pub is_command : slice_get running.batch.commands (k - 1) ≡ Some command
  pub left : slice_get running.done (k - 1) ≡ Some false
  pub in_order : IsInOrder lane place (k - 1) command

-- the first unfinished batch of queue q has number n, it has passed, and all its commands are done
pub record IsBump (v : VkState) (q n : ℕ) : Type 0 where
  pub lane : Lane
  pub there : slice_get v.lanes q ≡ Some lane
  pub first : Running
  pub is_first : slice_get lane.batches 0 ≡ Some first
  pub number : first.batch.number ≡ n
  pub passed : 0 < lane.passed
  pub done : all_done first ≡ true

-- what it means that a step of the Vulkan machine can be taken; a free step is none
abbrev pub IsEnabled : VkState → Stepped → Type 0
IsEnabled v (Passed q n) = IsPass v q n
IsEnabled v (Ran q n k) = IsCommand v q n k
IsEnabled v (Bumped q n) = IsBump v q n
IsEnabled v Free = ⊥
