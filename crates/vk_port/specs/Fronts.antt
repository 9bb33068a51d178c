-- How far the commands of lanes are done without a gap, and how many steps are ready.
use Rattle.std.specs.Prelude.{ℕ, ◌==◌, ◌^◌, ◌-◌, ◌++◌, Bool, true, false, ◌&&◌, not, nat_lt, nat_le, List, [], ◌∷◌, length, map, min, take, slice_get, Option, Some, None}
use Rattle.std.specs.List.{list_all}
use Rattle.vk_types.specs.declared.commands.VkCommand.{VkCommand}
use Rattle.vk_types.specs.declared.commands.VkCommand.TheVariants.{Barrier, Copy, CopyImage, CopyIn, CopyOut, Clear, Dispatch}
use Rattle.vk_types.specs.Stages.{whole, copy_stage, compute_stage}
use Rattle.vk_port.specs.declared.fronts.Front.{Front}
use Rattle.vk_port.specs.declared.lanes.Lane.{Lane}
use Rattle.vk_port.specs.declared.lanes.Running.{Running}
use Rattle.vk_port.specs.declared.steps.Stepped.{Stepped}
use Rattle.vk_port.specs.Journal.{are_numbered}
use Rattle.vk_port.specs.Valid.{batch_of}
use Rattle.vk_port.specs.Enabled.{all_done, passes, commands, bumps}

-- the number of the first of some batches; 0 where there is none
abbrev pub lane_number : List Running → ℕ
lane_number [] = 0
lane_number (r ∷ rs) = r.batch.number

-- the batches of a lane are numbered without a gap
abbrev pub is_numbered : Lane → Bool
is_numbered lane = are_numbered (lane_number lane.batches) (map batch_of lane.batches)

-- the first marks of a batch are set
abbrev pub is_done_to : ℕ → Running → Bool
is_done_to n running = list_all (λ mark. mark) (take n running.done)

abbrev pub is_done_at : ℕ → Option Running → Bool
is_done_at n None = n == 0
is_done_at n (Some running) = is_done_to n running

-- all commands in front of a place of a lane are done: those of the batches before it, and the first ones of its batch
abbrev pub is_front : Front → Lane → Bool
is_front front lane =
    nat_le front.batch (length lane.batches)
    && (list_all all_done (take front.batch lane.batches) && is_done_at front.command (slice_get lane.batches front.batch))

-- each lane has such a place
abbrev pub are_fronts : List Front → List Lane → Bool
are_fronts [] lanes = true
are_fronts (f ∷ fs) [] = true
are_fronts (f ∷ fs) (l ∷ ls) = is_front f l && are_fronts fs ls

-- the steps that can be taken, by timelines and lanes
abbrev pub ready_steps : List ℕ → List Lane → List Stepped
ready_steps timelines lanes = passes timelines 0 lanes ++ (commands 0 lanes ++ bumps 0 lanes)

-- how many there are; a count past the last one of 64 bits is that
abbrev pub count_of : List Stepped → ℕ
count_of steps = min (length steps) (2 ^ 64 - 1)

-- the bits of the stage in which a command works; none of a barrier
abbrev pub work_bits : VkCommand → ℕ
work_bits (Barrier from made to seen change) = 0
work_bits (Copy to to_first from from_first words) = whole copy_stage
work_bits (CopyImage to to_sub to_layout from from_sub from_layout) = whole copy_stage
work_bits (CopyIn image sub layout buffer first pitch) = whole copy_stage
work_bits (CopyOut buffer first pitch image sub layout) = whole copy_stage
work_bits (Clear target word) = whole compute_stage
work_bits (Dispatch routine count t0 t1 u0 b0) = whole compute_stage

-- two commands work in one stage
abbrev pub work_alike : Option VkCommand → Option VkCommand → Bool
work_alike None d = false
work_alike (Some c) None = false
work_alike (Some c) (Some d) = nat_lt 0 (work_bits c) && (work_bits c == work_bits d)

-- a mark is there, and not set
abbrev pub is_unset : Option Bool → Bool
is_unset None = false
is_unset (Some mark) = not mark

-- the command at a lane's place is of the batch of a number, is not done, and works in the stage of this one
abbrev pub has_alike : Lane → Front → ℕ → Option VkCommand → Bool
has_alike lane front n command =
    elim (slice_get lane.batches front.batch) [
      | None ↦ false
      | Some r ↦ (r.batch.number == n) && (is_unset (slice_get r.done front.command) && work_alike (slice_get r.batch.commands front.command) command)
    ]
