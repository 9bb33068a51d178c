-- The state of the Vulkan machine.
use Rattle.std.specs.Prelude.{ℕ, zero, suc, ◌+◌, ◌==◌, Bool, true, ◌&&◌, List, [], ◌∷◌, ◌++◌, map, replicate, slice_get, slice_index_or, Option, Some, None, if◌then◌else◌}
use Rattle.std.specs.List.{list_any}
use Rattle.vk_types.specs.declared.batches.Batch.{Batch}
use Rattle.vk_types.specs.declared.commands.VkCommand.{VkCommand}
use Rattle.vk_types.specs.declared.layouts.VkLayout.{VkLayout}
use Rattle.vk_types.specs.declared.layouts.VkLayout.TheVariants.{Undefined}
use Rattle.vk_types.specs.declared.plan.DevicePlan.{DevicePlan}
use Rattle.vk_types.specs.declared.plan.PlanBuffer.{PlanBuffer}
use Rattle.vk_types.specs.declared.plan.PlanImage.{PlanImage}
use Rattle.vk_sync_rules.specs.declared.accesses.DoneAccess.{DoneAccess}
use Rattle.vk_sync_rules.specs.declared.counts.Counts.{Counts}
use Rattle.vk_sync_rules.specs.declared.counts.Done.{Done}
use Rattle.vk_sync_rules.specs.declared.places.Place.{Place}
use Rattle.vk_sync_rules.specs.declared.rules.VkRule.{VkRule}
use Rattle.vk_sync_rules.specs.Numbers.{Numbers}
use Rattle.vk_sync_rules.specs.Places.{is_at}
use Rattle.vk_sync_rules.specs.Sizes.{each_word, sub_count}

-- what the Vulkan machine knows
pub record VkState : Type 0 where
  pub plan : DevicePlan
  pub numbers : Numbers
  -- the layout of each subresource of each image
  pub layouts : List (List VkLayout)
  -- the value of each timeline
  pub timelines : List ℕ
  -- all batches that were submitted, oldest first
  pub journal : List Batch
  pub queues : List Counts
  -- the done commands, newest first
  pub done : List Done
  -- the accesses that were made, oldest first
  pub accesses : List DoneAccess
  -- the first rule that a step broke
  pub broken : Option VkRule
  -- no batch has passed while another one that had passed was unfinished
  pub serial : Bool

-- the counts of a queue; zeros for one that is not there
abbrev pub no_counts : Counts
no_counts = record { submitted = 0; passed = 0; ended = 0 }

abbrev pub counts_of : VkState → ℕ → Counts
counts_of v q = slice_index_or v.queues q no_counts

-- the counts of queues at first: the first batch of queue 0 has the number 0, and that of any other queue the number 1
abbrev pub first_counts : ℕ → Counts
first_counts n = record { submitted = n; passed = n; ended = n }

abbrev pub first_queues : ℕ → List Counts
first_queues zero = []
first_queues (suc n) = first_counts 0 ∷ replicate n (first_counts 1)

-- the state of a device that was just created: words are zeros, and images are UNDEFINED
abbrev pub first_state : DevicePlan → VkState
first_state plan = record {
  plan = plan;
  numbers = record {
    buffers = map (λ (b : PlanBuffer). replicate b.words (Some 0)) plan.buffers;
    images = map (each_word (Some 0)) plan.images;
  };
  layouts = map (λ (i : PlanImage). replicate (sub_count i) Undefined) plan.images;
  timelines = replicate plan.timelines 0;
  journal = [];
  queues = first_queues plan.queues;
  done = [];
  accesses = [];
  broken = None;
  serial = true;
}

-- the value of a timeline
abbrev pub counter_of : VkState → ℕ → ℕ
counter_of v t = slice_index_or v.timelines t 0

-- the batch of a queue with a number
abbrev pub batch_in : ℕ → ℕ → List Batch → Option Batch
batch_in q n [] = None
batch_in q n (b ∷ bs) = if (b.queue == q) && (b.number == n) then Some b else batch_in q n bs

-- the command at a place of a batch, counted from 1
abbrev pub nth_command : List VkCommand → ℕ → Option VkCommand
nth_command commands zero = None
nth_command commands (suc k) = slice_get commands k

-- the command at a place of a queue
abbrev pub command_in : Option Batch → ℕ → Option VkCommand
command_in None k = None
command_in (Some b) k = nth_command b.commands k

abbrev pub command_at : VkState → ℕ → Place → Option VkCommand
command_at v q p = command_in (batch_in q p.number v.journal) p.index

-- a command with its place
pub record Placed : Type 0 where
  pub place : Place
  pub command : VkCommand

-- commands with their places in batch n, the first of which is k
abbrev pub placed_from : ℕ → ℕ → List VkCommand → List Placed
placed_from n k [] = []
placed_from n k (c ∷ cs) = record { place = record { number = n; index = k }; command = c } ∷ placed_from n (k + 1) cs

-- all commands of a queue
abbrev pub placed : ℕ → List Batch → List Placed
placed q [] = []
placed q (b ∷ bs) = (if b.queue == q then placed_from b.number 1 b.commands else []) ++ placed q bs

-- a command is done
abbrev pub is_same : ℕ → Place → Done → Bool
is_same q p d = (d.queue == q) && is_at d.place p

abbrev pub is_done : List Done → ℕ → Place → Bool
is_done done q p = list_any (is_same q p) done
