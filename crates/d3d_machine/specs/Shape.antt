-- The shape of a state: how many objects of each kind it has.
use Rattle.std.specs.Prelude.{ℕ, ◌≡◌, ◌≤◌, length, List}
use Rattle.d3d_machine.specs.declared.world.World.{World}
use Rattle.d3d_machine.specs.declared.events.Listed.{Listed}
use Rattle.d3d_machine.specs.State.{Desk, State, list_of}

-- a desk has a fence, a queue, a list and a thread for each of the world
pub record HasLengths (w : World) (d : Desk) : Type 0 where
  pub fences : length d.fences ≡ length w.fences
  pub called : length d.called ≡ length w.queues
  pub lists : length d.lists ≡ length w.lists
  pub threads : length d.threads ≡ length w.scripts

-- a state has an object for each of the world
pub record HasShape (w : World) (s : State) : Type 0 where
  pub desk : HasLengths w s.desk
  pub memory : length s.memory ≡ length w.resources

-- no list has more commands than a list may hold
pub record AreShort (lists : List Listed) : Type 0 where
  pub each : (l : ℕ) → length (list_of lists l).commands ≤ 1024
