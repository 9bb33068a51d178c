-- A view of the Vulkan machine's state: what each queue has yet to do.
use Rattle.std.specs.Prelude.{ℕ, zero, suc, ◌≡◌, ◌<◌, ◌≤◌, ◌+◌, ◌-◌, Bool, true, List, [], ◌∷◌, map, length, nat_lt, Option, Some, None, if◌then◌else◌}
use Rattle.std.specs.List.{list_all}
use Rattle.vk_types.specs.declared.batches.Batch.{Batch}
use Rattle.vk_types.specs.declared.commands.VkCommand.{VkCommand}
use Rattle.vk_types.specs.declared.steps.VkStep.{VkStep}
use Rattle.vk_types.specs.declared.steps.VkStep.TheVariants as vk
use Rattle.vk_sync_rules.specs.declared.counts.Done.{Done}
use Rattle.vk_sync_rules.specs.declared.places.Place.{Place}
use Rattle.vk_sync_rules.specs.Rules.{after_step}
use Rattle.vk_sync_rules.specs.VkState.{VkState as Machine, counts_of, is_done}
use Rattle.vk_port.specs.declared.lanes.Lane.{Lane}
use Rattle.vk_port.specs.declared.lanes.Running.{Running}
use Rattle.vk_port.specs.declared.steps.Stepped.{Stepped}
use Rattle.vk_port.specs.declared.steps.Stepped.TheVariants.{Passed, Ran, Bumped, Free}
use Rattle.vk_port.specs.Journal.{of_queue, first_number, are_numbered, fits_plan}
use Rattle.vk_port.specs.VkState.{VkState}

-- the marks of the commands of batch n of queue q, the first of which is k
abbrev pub marks : List Done → ℕ → ℕ → ℕ → List VkCommand → List Bool
marks done q n k [] = []
marks done q n k (c ∷ cs) = is_done done q (record { number = n; index = k }) ∷ marks done q n (k + 1) cs

-- a batch of queue q with the marks of its commands
abbrev pub running_of : List Done → ℕ → Batch → Running
running_of done q b = record { batch = b; done = marks done q b.number 1 b.commands }

-- those of some batches that have number n or a later one
abbrev pub from_number : ℕ → List Batch → List Batch
from_number n [] = []
from_number n (b ∷ bs) = if nat_lt b.number n then from_number n bs else b ∷ from_number n bs

-- the unfinished batches of queue q, and how many of them have passed
abbrev pub unfinished : Machine → ℕ → Lane
unfinished v q = record {
  batches = map (running_of v.done q) (from_number (counts_of v q).ended (of_queue q v.journal));
  passed = (counts_of v q).passed - (counts_of v q).ended;
}

-- those of so many queues from q on
abbrev pub lanes_from : Machine → ℕ → ℕ → List Lane
lanes_from v q zero = []
lanes_from v q (suc k) = unfinished v q ∷ lanes_from v (q + 1) k

abbrev pub lanes_of : Machine → List Lane
lanes_of v = lanes_from v 0 (length v.queues)

-- what there is yet to do of the machine's state: the timelines, the journal, and each queue's unfinished batches
abbrev pub shown : Machine → VkState
shown v = record { timelines = v.timelines; journal = v.journal; lanes = lanes_of v }

-- the batches of each queue are numbered without a gap up to the next one, a queue that is not there has none, and done
-- commands are of batches that have passed
pub record IsCounted (v : Machine) : Type 0 where
  pub first_ended : (q : ℕ) → q < length v.queues → first_number q ≤ (counts_of v q).ended
  pub ended_passed : (q : ℕ) → (counts_of v q).ended ≤ (counts_of v q).passed
  pub passed_submitted : (q : ℕ) → (counts_of v q).passed ≤ (counts_of v q).submitted
  pub numbered : (q : ℕ) → are_numbered (first_number q) (of_queue q v.journal) ≡ true
  pub next : (q : ℕ) → q < length v.queues → (counts_of v q).submitted ≡ first_number q + length (of_queue q v.journal)
  pub none_elsewhere : (q : ℕ) → length v.queues ≤ q → of_queue q v.journal ≡ []
  pub done : (q : ℕ) (p : Place) → is_done v.done q p ≡ true → p.number < (counts_of v q).passed
  -- each batch has only commands that devices do so far
  pub fit : list_all (fits_plan v.plan) v.journal ≡ true

-- the step of the machine that a step of a device is, with what its slots gave; a free one is none
abbrev pub vk_step : Stepped → List ℕ → Option VkStep
vk_step (Passed q n) loaded = Some (vk.Pass q n)
vk_step (Ran q n k) loaded = Some (vk.Command q n k loaded)
vk_step (Bumped q n) loaded = Some (vk.Bump q n)
vk_step Free loaded = None

-- the machine after a step that may be none
abbrev pub after_one : Machine → Option VkStep → Machine
after_one v None = v
after_one v (Some s) = after_step v s

abbrev pub after_stepped : Machine → Stepped → List ℕ → Machine
after_stepped v s loaded = after_one v (vk_step s loaded)
