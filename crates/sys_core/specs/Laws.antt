-- The laws of the system, as types.
use Rattle.std.specs.Prelude.{ℕ, ◌≡◌, ◌<◌, ◌⊎◌, List, length, true}
use Rattle.d3d_machine.specs.declared.world.World.{World}
use Rattle.d3d_machine.specs.declared.events.Event.{Event}
use Rattle.d3d_machine.specs.World.{HasOneQueueAtMost}
use Rattle.d3d_machine.specs.State.{called_of}
use Rattle.d3d_machine.specs.Play.{IsRunButWords, state_after}
use Rattle.verdicts.specs.declared.rules.Verdict.TheVariants.{Clean}
use Rattle.vk_port.specs.VkState.{VkState}
use Rattle.sys_core.specs.Consistent.{IsDevice}
use Rattle.sys_core.specs.Steps.{enabled_of, is_ready_thread}

-- the Direct3D machine can go on: a thread is ready, or a queue has an operation that is not complete
abbrev pub CanGoOn : World → List Event → Type 0
CanGoOn w h =
    ((t : ℕ) × (t < length w.scripts) × (is_ready_thread w h t ≡ true))
    ⊎ ((q : ℕ) × (q < length w.queues) × (0 < length (called_of (state_after w h).desk q)))

-- in a world with one queue at most, where the Direct3D machine can go on, the system has a step
abbrev pub StepsGoOn : Type 0
StepsGoOn = (w : World) → (h : List Event) → (v : VkState) → (free : ℕ) → HasOneQueueAtMost w → IsRunButWords w h → IsDevice w h v → CanGoOn w h → 0 < length (enabled_of w h Clean v free)
