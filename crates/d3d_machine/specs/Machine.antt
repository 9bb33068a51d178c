-- What contracts see of the parts of a machine.
use Rattle.std.specs.Prelude.{ℕ, ◌≤◌, List, [], length, slice_get, Option, Some, None}
use Rattle.dx_base.specs.Roomy.{Roomy}
use Rattle.d3d_machine.specs.declared.events.Operation.{Operation}
use Rattle.d3d_machine.specs.declared.thread_places.Wait.{Wait}
use Rattle.d3d_machine.specs.State.{Waiting, words_at}

-- the wait of a thread
abbrev pub waiting_of : Wait → Waiting
waiting_of x = record { fence = x.fence.0; value = x.value; marked = x.marked }

-- the operations of a queue, without room
abbrev pub operations_in : Roomy Operation → List Operation
operations_in r = r.items

-- the oldest operation of a queue
abbrev pub oldest_in : List (List Operation) → ℕ → Option Operation
oldest_in called q = slice_get (elim (slice_get called q) [ None ↦ [] | Some os ↦ os ]) 0

-- there is space for the words of each resource
pub record HasSpace (space : List ℕ) (m : List (List ℕ)) : Type 0 where
  pub each : (r : ℕ) → length (words_at m r) ≤ length space
