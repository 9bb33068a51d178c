-- What the system's parts are after a history, and what the system keeps at every step.
use Rattle.std.specs.Prelude.{ℕ, ◌≡◌, ◌≤◌, ◌<◌, ◌+◌, ◌-◌, nat_lt, List, [], ◌∷◌, length, map, take, drop, slice_get, Some, true}
use Rattle.std.specs.List.{list_all}
use Rattle.d3d_machine.specs.declared.world.World.{World}
use Rattle.d3d_machine.specs.declared.events.Listed.{Listed}
use Rattle.d3d_machine.specs.declared.events.Operation.{Operation}
use Rattle.d3d_machine.specs.declared.events.Operation.TheVariants.{Execute, Signal}
use Rattle.d3d_machine.specs.declared.events.Event.{Event}
use Rattle.d3d_machine.specs.World.{IsWorld}
use Rattle.d3d_machine.specs.Play.{IsRunButWords}
use Rattle.d3d_machine.specs.Past.{PlaceSince, Past, past}
use Rattle.d3d_machine.specs.Operations.{operations, counter}
use Rattle.vk_port.specs.Journal.{of_queue, first_number}
use Rattle.vk_port.specs.Valid.{IsValid, Matches}
use Rattle.vk_port.specs.VkState.{VkState, lane_of, counter_of}
use Rattle.sys_core.specs.declared.parts.Seat.{Seat}
use Rattle.sys_core.specs.declared.parts.Signalled.{Signalled}
use Rattle.sys_core.specs.Parts.{place_since, Queued}
use Rattle.sys_core.specs.Lowering.{plan_of_world, last_signal}
use Rattle.sys_core.specs.Stands.{Stands}
use Rattle.sys_core.specs.Steps.{submitted_of}

-- the lists, the threads' places and the fences' updates are those of the past
pub record ArePast (p : Past) (lists : List Listed) (places : List PlaceSince) (fences : List (List ℕ)) : Type 0 where
  pub lists_are : lists ≡ p.state.desk.lists
  pub places_are : places ≡ p.places
  pub fences_are : fences ≡ p.updates

-- the signals among operations of which the first has number n
abbrev pub signals_of : ℕ → List Operation → List Signalled
signals_of n [] = []
signals_of n (Execute cs ∷ os) = signals_of (n + 1) os
signals_of n (Signal f v ∷ os) = (record { number = n; fence = f; value = v }) ∷ signals_of (n + 1) os

-- a queue's operations that are not submitted, and its submitted signals that have not completed
pub record IsHeld (w : World) (h : List Event) (v : VkState) (q : ℕ) (x : Queued) : Type 0 where
  pub submitted_is : x.submitted ≡ submitted_of v q
  pub within : x.submitted ≤ length (operations w h q)
  pub rest : x.operations ≡ drop x.submitted (operations w h q)
  pub last_is : x.last_signal ≡ last_signal 1 0 (take x.submitted (operations w h q))
  pub pending : x.signals ≡ signals_of (counter h q + 1) (drop (counter h q) (take x.submitted (operations w h q)))

-- the queues' held operations
pub record AreHeld (w : World) (h : List Event) (v : VkState) (held : List Queued) : Type 0 where
  pub count : length held ≡ length w.queues
  pub each : (q : ℕ) (x : Queued) → slice_get held q ≡ Some x → IsHeld w h v q x

-- how many batches of a queue have finished
abbrev pub finished_of : VkState → ℕ → ℕ
finished_of v q = length (of_queue q v.journal) - length (lane_of v q).batches

-- the device has the world's objects, the history's completions are its finished batches, and the start-up
-- timeline stands at 1 once the start-up batch has finished, and at 0 before
pub record IsDevice (w : World) (h : List Event) (v : VkState) : Type 0 where
  pub valid : IsValid v
  pub objects : Matches (plan_of_world w) v
  pub stands : Stands w h v
  pub named : list_all (λ b. nat_lt b.queue (length w.queues)) v.journal ≡ true
  pub finished : (q : ℕ) → q < length w.queues → counter h q ≡ (first_number q + finished_of v q) - 1
  pub opening : 0 < finished_of v 0 → counter_of v (length w.queues) ≡ 1
  pub unopened : finished_of v 0 ≡ 0 → counter_of v (length w.queues) ≡ 0

-- what the system keeps at every step
pub record IsConsistent (w : World) (h : List Event) (lists : List Listed) (seats : List Seat) (fences : List (List ℕ)) (held : List Queued) (v : VkState) : Type 0 where
  pub world : IsWorld w
  pub run : IsRunButWords w h
  pub past_is : ArePast (past w h) lists (map place_since seats) fences
  pub held_are : AreHeld w h v held
  pub device : IsDevice w h v
