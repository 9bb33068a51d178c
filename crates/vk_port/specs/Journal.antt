-- The batches of a queue among all that were submitted, and their numbers.
use Rattle.std.specs.Prelude.{ℕ, ◌+◌, ◌==◌, Bool, true, false, ◌&&◌, List, [], ◌∷◌, length, nat_lt, Some, None, if◌then◌else◌}
use Rattle.std.specs.List.{list_all}
use Rattle.vk_types.specs.declared.batches.Batch.{Batch}
use Rattle.vk_types.specs.declared.commands.VkCommand.{VkCommand}
use Rattle.vk_types.specs.declared.commands.VkCommand.TheVariants.{Barrier, Copy, CopyImage, CopyIn, CopyOut, Clear, Dispatch}
use Rattle.vk_types.specs.declared.plan.DevicePlan.{DevicePlan}

-- the batches of one queue, in order
abbrev pub of_queue : ℕ → List Batch → List Batch
of_queue q [] = []
of_queue q (b ∷ bs) = if b.queue == q then b ∷ of_queue q bs else of_queue q bs

-- the number of the first batch of a queue
abbrev pub first_number : ℕ → ℕ
first_number q = if q == 0 then 0 else 1

-- the number behind the last of some batches; n where there is none
abbrev pub number_after : ℕ → List Batch → ℕ
number_after n [] = n
number_after n (b ∷ bs) = number_after (b.number + 1) bs

-- the number that the next batch of a queue has
abbrev pub next_number : ℕ → List Batch → ℕ
next_number q journal = number_after (first_number q) (of_queue q journal)

-- the batches are numbered from n on without a gap
abbrev pub are_numbered : ℕ → List Batch → Bool
are_numbered n [] = true
are_numbered n (b ∷ bs) = (b.number == n) && are_numbered (n + 1) bs

-- a command is one that devices do so far, a barrier without a change of a layout or a copy between buffers, and
-- names only buffers of the plan
abbrev pub command_fits : DevicePlan → VkCommand → Bool
command_fits plan (Barrier from made to seen None) = true
command_fits plan (Barrier from made to seen (Some change)) = false
command_fits plan (Copy to to_first from from_first words) =
    nat_lt to (length plan.buffers) && nat_lt from (length plan.buffers)
command_fits plan (CopyImage to to_sub to_layout from from_sub from_layout) = false
command_fits plan (CopyIn image sub layout buffer first pitch) = false
command_fits plan (CopyOut buffer first pitch image sub layout) = false
command_fits plan (Clear target word) = false
command_fits plan (Dispatch routine count t0 t1 u0 b0) = false

-- waits or sets name only timelines of the plan
abbrev pub pairs_fit : DevicePlan → List (ℕ × ℕ) → Bool
pairs_fit plan pairs = list_all (λ pair. nat_lt pair.0 plan.timelines) pairs

-- a batch has only commands that devices do, and names only queues, timelines and buffers of the plan
abbrev pub fits_plan : DevicePlan → Batch → Bool
fits_plan plan b =
    nat_lt b.queue plan.queues
    && (pairs_fit plan b.waits && (pairs_fit plan b.sets && list_all (command_fits plan) b.commands))
