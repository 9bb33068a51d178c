-- What the system keeps at every step, and what is seen of it.
use Rattle.std.specs.Prelude.{ℕ, ◌≡◌, List, map, Some, None, Bool, nat_lt, length}
use Rattle.d3d_machine.specs.declared.world.World.{World}
use Rattle.d3d_machine.specs.declared.calls.Call.{Call}
use Rattle.d3d_machine.specs.declared.events.Event.{Event}
use Rattle.d3d_machine.specs.World.{IsWorld, HasOneQueueAtMost}
use Rattle.d3d_machine.specs.Play.{IsRunButWords}
use Rattle.verdicts.specs.declared.rules.Verdict.TheVariants.{Clean}
use Rattle.vk_sync_rules.specs.VkState.{VkState as Machine}
use Rattle.vk_port.specs.DeviceView.{DeviceView}
use Rattle.vk_port.specs.Machine.{shown}
use Rattle.sys_core.specs.declared.parts.Seat.{Seat}
use Rattle.sys_core.specs.declared.parts.Parts.{Parts}
use Rattle.sys_core.specs.Lowering.{plan_of_world, AreNumbers}
use Rattle.sys_core.specs.Parts.{queued, updates_in, is_met_by}
use Rattle.sys_core.specs.Consistent.{IsDevice, IsConsistent}
use Rattle.sys_core.specs.Machine.{IsMachine}
use Rattle.sys_core.specs.Ahead.{IsWhole}
use Rattle.sys_core.specs.Steps.{enabled_of}
use Rattle.sys_core.specs.WaitSearches.{AreSearched}

-- what is seen of the system: its world, its history, its device as contracts see it, and the device itself
pub record SysView (D : Type 0) : Type 0 where
  pub world : World
  pub history : List Event
  pub device : DeviceView
  pub itself : D

-- the parts and the device are those after the history, the device has the world's objects and its machine, and the parts their numbers; and
-- what was found of each wait still tells whether it is met
pub record Keeps (w : World) (h : List Event) (p : Parts) (d : DeviceView) : Type 0 where
  pub consistent : IsConsistent w h p.lists p.seats (map updates_in p.fences) (map queued p.held) (shown d.state)
  pub machine_is : IsMachine w d.state
  pub plan : d.plan ≡ Some (plan_of_world w)
  pub numbers : AreNumbers w.resources p.numbers
  pub searched : AreSearched (map updates_in p.fences) p.seats

-- the world is valid and has one queue at most, the history is a run of it but for words, the device stands, and its machine is
-- what a run of it can be
pub record IsSystem (w : World) (h : List Event) (m : Machine) : Type 0 where
  pub world : IsWorld w
  pub queues : HasOneQueueAtMost w
  pub run : IsRunButWords w h
  pub device : IsDevice w h (shown m)
  pub machine : IsMachine w m

-- a thread can go on, by its place: it has a call left and does not wait, or its wait is met
abbrev pub ready_by : List Call → List (List ℕ) → Seat → Bool
ready_by script fences s = elim s.waits [ None ↦ nat_lt s.made (length script) | Some a ↦ is_met_by fences a ]

-- what the type of the system keeps: its parts and its device are those after the history, its world has one queue at
-- most, since a batch is made as where there is no other queue, a calm history is a run with its words, and so many steps
-- can be taken; a device that has no free step left to take offers none
pub record IsSys (w : World) (h : List Event) (p : Parts) (d : DeviceView) (enabled : ℕ) : Type 0 where
  pub keeps : Keeps w h p d
  pub queues : HasOneQueueAtMost w
  pub whole : IsWhole w h d.state
  pub counted : enabled ≡ length (enabled_of w h Clean (shown d.state) d.offered)
  pub none_at_rest : d.rest ≡ 0 → d.offered ≡ 0
