-- The device holds exactly the lowered batches of a history.
use Rattle.std.specs.Prelude.{ℕ, ◌≡◌, ◌≤◌, ◌<◌, ◌-◌, List, [], ◌∷◌, ◌++◌, length, take, slice_get, Some, true}
use Rattle.d3d_machine.specs.declared.world.World.{World}
use Rattle.d3d_machine.specs.declared.events.Operation.{Operation}
use Rattle.d3d_machine.specs.declared.events.Event.{Event}
use Rattle.d3d_machine.specs.Operations.{operations, counter}
use Rattle.vk_types.specs.declared.batches.Batch.{Batch}
use Rattle.vk_port.specs.Journal.{of_queue, are_numbered}
use Rattle.vk_port.specs.VkState.{VkState, counter_of}
use Rattle.sys_core.specs.Lowering.{opening_batches, lowered}

-- a batch is that of an operation which the events called, lowered after these events and these batches
pub record IsLowered (w : World) (h : List Event) (earlier : List Batch) (b : Batch) : Type 0 where
  pub operation : Operation
  pub called : slice_get (operations w h b.queue) (b.number - 1) ≡ Some operation
  pub batch : b ≡ lowered w h earlier b.queue b.number operation

-- batches are lowered after lengths of the history that never fall
abbrev pub AreLowered : World → List Event → ℕ → List Batch → List Batch → Type 0
AreLowered w h least earlier [] = Unit {0}
AreLowered w h least earlier (b ∷ bs) =
    (k : ℕ) × (least ≤ k) × (k ≤ length h) × IsLowered w (take k h) earlier b × AreLowered w h k (earlier ++ b ∷ []) bs

-- the batches of a queue but the start-up's are those of its first called operations, and its timeline's value
-- is the number of operations that the history completed
pub record StandsAt (w : World) (h : List Event) (rest : List Batch) (v : VkState) (q : ℕ) : Type 0 where
  pub numbered : are_numbered 1 (of_queue q rest) ≡ true
  pub of_called : length (of_queue q rest) ≤ length (operations w h q)
  pub counter_is : counter_of v q ≡ counter h q
  pub done : counter h q ≤ length (of_queue q rest)

-- the journal is the batches submitted before any call, and the lowered batches of the first operations of each queue
pub record Stands (w : World) (h : List Event) (v : VkState) : Type 0 where
  pub rest : List Batch
  pub begins : v.journal ≡ opening_batches w ++ rest
  pub lowered_rest : AreLowered w h 0 (opening_batches w) rest
  pub queues : (q : ℕ) → q < length w.queues → StandsAt w h rest v q
