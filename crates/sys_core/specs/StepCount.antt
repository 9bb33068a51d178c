-- How many steps lead to a state of the system.
use Rattle.std.specs.Prelude.{ℕ, ◌≡◌, ◌+◌, nat_lt, List, [], ◌∷◌, length, if◌then◌else◌}
use Rattle.dx_base.specs.declared.steps.Step.{Step}
use Rattle.dx_base.specs.declared.steps.Step.TheVariants as step
use Rattle.d3d_machine.specs.declared.world.World.{World}
use Rattle.d3d_machine.specs.declared.events.Event.{Event}
use Rattle.d3d_machine.specs.declared.events.Event.TheVariants as event
use Rattle.vk_types.specs.declared.batches.Batch.{Batch}
use Rattle.vk_port.specs.Enabled.{enabled_steps}
use Rattle.vk_port.specs.Left.{steps_left}
use Rattle.vk_port.specs.VkState.{VkState}
use Rattle.sys_core.specs.Lowering.{opening_batches}

-- how many free steps a step is: one, where it is the device's and none of the Vulkan machine's
abbrev pub rest_used : VkState → Step → ℕ
rest_used v (step.Thread t) = 0
rest_used v (step.Worker q) = 0
rest_used v (step.Device k) = if nat_lt k (length (enabled_steps v)) then 0 else 1

-- the calls of a history
abbrev pub count_calls : List Event → ℕ
count_calls [] = 0
count_calls (event.Call t c r ∷ h) = 1 + count_calls h
count_calls (event.Awake t ∷ h) = count_calls h
count_calls (event.Queue q ∷ h) = count_calls h

-- the wakings of a history
abbrev pub count_wakings : List Event → ℕ
count_wakings [] = 0
count_wakings (event.Call t c r ∷ h) = count_wakings h
count_wakings (event.Awake t ∷ h) = 1 + count_wakings h
count_wakings (event.Queue q ∷ h) = count_wakings h

-- the steps that batches take on the device: a pass, an end, and one for each command
abbrev pub batches_steps : List Batch → ℕ
batches_steps [] = 0
batches_steps (b ∷ bs) = (2 + length b.commands) + batches_steps bs

-- so many steps lead from the opening to a history and a state, on a device that had so many free steps left to take then,
-- and has so many now: one for each call, each waking, each batch but those submitted before any call, each free step, and
-- each pass, command and end of a batch that the device does not have left
pub record AreCounted (w : World) (rest left steps : ℕ) (h : List Event) (v : VkState) : Type 0 where
  pub equation : (steps + steps_left v) + (left + length (opening_batches w))
      ≡ (count_calls h + count_wakings h) + (length v.journal + batches_steps v.journal) + rest
