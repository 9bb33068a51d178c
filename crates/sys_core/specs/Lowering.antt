-- How operations of the Direct3D machine become batches of the Vulkan machine.
use Rattle.std.specs.Prelude.{ℕ, zero, suc, ◌≡◌, ◌<◌, ◌+◌, ◌-◌, ◌/◌, ◌==◌, ◌&&◌, not, nat_lt, bit_or, List, [], ◌∷◌, ◌++◌, length, map, take, slice_get, Option, Some, None, Bool, false, if◌then◌else◌}
use Rattle.d3d_machine.specs.declared.world.World.{World}
use Rattle.d3d_machine.specs.declared.world.Resource.{Resource}
use Rattle.d3d_machine.specs.declared.world.Resource.TheVariants.{Buffer}
use Rattle.d3d_machine.specs.declared.calls.Record.{Record}
use Rattle.d3d_machine.specs.declared.calls.Record.TheVariants.{Copy}
use Rattle.d3d_machine.specs.declared.events.Command.{Command}
use Rattle.d3d_machine.specs.declared.events.Operation.{Operation}
use Rattle.d3d_machine.specs.declared.events.Operation.TheVariants.{Execute, Signal}
use Rattle.d3d_machine.specs.declared.events.Event.{Event}
use Rattle.d3d_machine.specs.Operations.{operations, counter}
use Rattle.vk_types.specs.declared.batches.Batch.{Batch}
use Rattle.vk_types.specs.declared.commands.VkCommand.{VkCommand}
use Rattle.vk_types.specs.declared.commands.VkCommand.TheVariants as vk
use Rattle.vk_types.specs.declared.stages.Stages.{Stages}
use Rattle.vk_types.specs.declared.accesses.Access.TheVariants.{MemoryRead, MemoryWrite, HostRead}
use Rattle.vk_types.specs.declared.accesses.Accesses.{Accesses}
use Rattle.vk_types.specs.declared.stages.Stage.TheVariants.{AllCommands, Host}
use Rattle.vk_types.specs.Accesses.{access_bit}
use Rattle.vk_types.specs.Stages.{only_stage}
use Rattle.vk_types.specs.declared.plan.DevicePlan.{DevicePlan}
use Rattle.vk_types.specs.declared.plan.PlanBuffer.{PlanBuffer}

-- the live buffers, in order of ids
abbrev pub plan_buffers : List (Option Resource) → List PlanBuffer
plan_buffers [] = []
plan_buffers (None ∷ rs) = plan_buffers rs
plan_buffers (Some (Buffer h n) ∷ rs) = (record { words = n; home = h }) ∷ plan_buffers rs

-- how many live resources come before an id
abbrev pub number_in : List (Option Resource) → ℕ → ℕ
number_in rs b = length (plan_buffers (take b rs))

-- the number of a buffer on the device: how many live resources come before its id
abbrev pub plan_number : World → ℕ → ℕ
plan_number w b = number_in w.resources b

-- a table has the number of each resource
pub record AreNumbers (rs : List (Option Resource)) (numbers : List ℕ) : Type 0 where
  pub count : length numbers ≡ length rs
  pub each : (b : ℕ) → b < length rs → slice_get numbers b ≡ Some (number_in rs b)

-- the device's objects for a world: its live buffers, its queues, and a timeline for each queue and one for the start-up
abbrev pub plan_of_world : World → DevicePlan
plan_of_world w = record {
  buffers = plan_buffers w.resources;
  images = [];
  heaps = [];
  views = [];
  queues = length w.queues;
  timelines = length w.queues + 1;
}

-- the start-up batch: the first queue's batch 0, which sets the start-up timeline to 1
abbrev pub startup : World → Batch
startup w = record { queue = 0; number = 0; waits = []; commands = []; sets = (length w.queues, 1) ∷ [] }

-- the batches submitted before any call: the start-up batch, where there is a queue
abbrev pub opening_batches : World → List Batch
opening_batches w = if nat_lt 0 (length w.queues) then startup w ∷ [] else []

-- the stages that the barriers round an execute name: all stages of the device, and the host's (Vulkan 1.3, 7.1.2)
abbrev pub all_commands : Stages
all_commands = only_stage AllCommands

abbrev pub host : Stages
host = only_stage Host

-- the accesses that they name: writes of memory, reads and writes of memory, and reads of the host (Vulkan 1.3, 7.1.3)
abbrev pub memory_write : Accesses
memory_write = record { 0 = access_bit MemoryWrite }

abbrev pub memory_read_write : Accesses
memory_read_write = record { 0 = bit_or (access_bit MemoryRead) (access_bit MemoryWrite) }

abbrev pub host_read : Accesses
host_read = record { 0 = access_bit HostRead }

-- the barrier before an execute: all that was written before is seen by its commands
abbrev pub leading : VkCommand
leading = vk.Barrier all_commands memory_write all_commands memory_read_write None

-- the barrier behind an execute: all that it wrote is seen by the host
abbrev pub trailing : VkCommand
trailing = vk.Barrier all_commands memory_write host host_read None

-- a recorded command in Vulkan's words: a buffer's id becomes its number, numbers of bytes become numbers of words
abbrev pub lower_record : World → Record → VkCommand
lower_record w (Copy d doff s soff bytes) = vk.Copy (plan_number w d.0) (doff / 4) (plan_number w s.0) (soff / 4) (bytes / 4)

abbrev pub lower_commands : World → List Command → List VkCommand
lower_commands w cs = map (λ c. lower_record w c.what) cs

-- the commands of an operation's batch
abbrev pub lowered_commands : World → Operation → List VkCommand
lowered_commands w (Execute cs) = leading ∷ (lower_commands w cs ++ trailing ∷ [])
lowered_commands w (Signal f v) = []

-- the number of the last signal among operations of which the first has number n; `found` where there is none
abbrev pub last_signal : ℕ → ℕ → List Operation → ℕ
last_signal n found [] = found
last_signal n found (Execute cs ∷ os) = last_signal (n + 1) found os
last_signal n found (Signal f v ∷ os) = last_signal (n + 1) n os

-- a wait for an operation of a queue, where there is one
abbrev pub own_wait : ℕ → ℕ → List (ℕ × ℕ)
own_wait q n = if n == 0 then [] else (q, n) ∷ []

-- a wait for what another queue has completed, where it has completed something
abbrev pub other_counter : List Event → ℕ → ℕ → List (ℕ × ℕ)
other_counter h q p = if p == q then [] else own_wait p (counter h p)

-- the waits for the queues from p on, so many of them
abbrev pub other_counters : List Event → ℕ → ℕ → ℕ → List (ℕ × ℕ)
other_counters h q p zero = []
other_counters h q p (suc k) = other_counter h q p ++ other_counters h q (p + 1) k

abbrev pub signals_fence : ℕ → Option Operation → Bool
signals_fence f None = false
signals_fence f (Some (Execute cs)) = false
signals_fence f (Some (Signal g v)) = g.0 == f

-- the batch is another queue's signal of the fence, and has not completed
abbrev pub is_other_pending : World → List Event → ℕ → ℕ → Batch → Bool
is_other_pending w h q f b =
    not (b.queue == q) && (nat_lt (counter h b.queue) b.number && signals_fence f (slice_get (operations w h b.queue) (b.number - 1)))

-- a wait for the fence's last pending update of another queue, where there is one
abbrev pub other_pending : World → List Event → ℕ → ℕ → List (ℕ × ℕ) → List Batch → List (ℕ × ℕ)
other_pending w h q f found [] = found
other_pending w h q f found (b ∷ bs) =
    other_pending w h q f (if is_other_pending w h q f b then (b.queue, b.number) ∷ [] else found) bs

-- the waits of an operation's batch: an execute's for the start-up, for its queue's last earlier signal, and
-- for each other queue's counter; a signal's for the fence's last pending update of another queue
abbrev pub waits_of : World → List Event → List Batch → ℕ → List Operation → Operation → List (ℕ × ℕ)
waits_of w h earlier q before (Execute cs) =
    (length w.queues, 1) ∷ (own_wait q (last_signal 1 0 before) ++ other_counters h q 0 (length w.queues))
waits_of w h earlier q before (Signal f v) = other_pending w h q f.0 [] earlier

-- the batch of operation n of a queue, submitted after these events and these batches
abbrev pub lowered : World → List Event → List Batch → ℕ → ℕ → Operation → Batch
lowered w h earlier q n o = record {
  queue = q;
  number = n;
  waits = waits_of w h earlier q (take (n - 1) (operations w h q)) o;
  commands = lowered_commands w o;
  sets = (q, n) ∷ [];
}
