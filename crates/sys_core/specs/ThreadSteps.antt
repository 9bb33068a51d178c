-- The step of a thread: an event, and what the host stores and reads on the device.
use Rattle.std.specs.Prelude.{ℕ, ◌≡◌, List, [], ◌∷◌, ◌++◌, Option, Some, None}
use Rattle.dx_base.specs.Effects.{At}
use Rattle.d3d_machine.specs.declared.world.World.{World}
use Rattle.d3d_machine.specs.declared.calls.Reply.{Reply}
use Rattle.d3d_machine.specs.declared.events.Event.{Event}
use Rattle.d3d_machine.specs.declared.events.Event.TheVariants as event
use Rattle.d3d_machine.specs.State.{Desk}
use Rattle.d3d_machine.specs.Effects.{done}
use Rattle.d3d_machine.specs.Play.{May, SameButWords, state_after}
use Rattle.vk_sync_rules.specs.VkState.{VkState as Machine}
use Rattle.sys_core.specs.Host.{IsRead, after_call}

-- an event of that thread
abbrev pub IsOf : ℕ → Event → Type 0
IsOf t (event.Call u c r) = u.0 ≡ t
IsOf t (event.Awake u) = u.0 ≡ t
IsOf t (event.Queue q) = ⊥

-- the machine after an event of a thread: a call that is not refused stores or reads on the device
abbrev pub after_host : World → Desk → Machine → Event → Machine
after_host w d m (event.Call t c r) = after_call w d.lists m c r
after_host w d m (event.Awake t) = m
after_host w d m (event.Queue q) = m

-- an answer to a read has words that agree with the numbers that the host reads
abbrev pub HasWords : World → Machine → Option (At (ℕ × ℕ)) → Reply → Type 0
HasWords w m None r = Unit {0}
HasWords w m (Some x) r = IsRead w m x r

-- a call that reads is answered by such words
abbrev pub TellsWords : World → Desk → Machine → Event → Type 0
TellsWords w d m (event.Call t c r) = HasWords w m (done w d.lists c).reads r
TellsWords w d m (event.Awake t) = Unit {0}
TellsWords w d m (event.Queue q) = Unit {0}

-- a step of a thread: an event of it may come but for its words, and these agree with the numbers that the host reads; the
-- machine is that after what the host stores and reads, so that what each queue has yet to do stays
pub record IsThreadStep (w : World) (h after : List Event) (m n : Machine) (t : ℕ) : Type 0 where
  pub event : Event
  pub of_thread : IsOf t event
  pub enabled : May SameButWords w (state_after w h) event
  pub words : TellsWords w (state_after w h).desk m event
  pub history : after ≡ h ++ event ∷ []
  pub machine : n ≡ after_host w (state_after w h).desk m event
