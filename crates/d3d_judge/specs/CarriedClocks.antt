-- What the code's clocks are, and how many numbers each has.
use Rattle.std.specs.Prelude.{ℕ, zero, suc, ◌≡◌, ◌≤◌, List, [], ◌∷◌, length, map, slice_get, ◌<◌, Bool, true, false, Option, Some, None}
use Rattle.dx_base.specs.Each.{Each}
use Rattle.dx_base.specs.Roomy.{Roomy}
use Rattle.clocks.specs.declared.clock.Clock.{Clock}
use Rattle.clocks.specs.Clocks.{empty_clock}
use Rattle.d3d_judge.specs.declared.carried_clocks.FenceUpdate.{FenceUpdate}
use Rattle.d3d_judge.specs.declared.carried_clocks.GivenWork.{GivenWork}
use Rattle.d3d_judge.specs.declared.carried_clocks.ThreadWait.{ThreadWait}
use Rattle.d3d_judge.specs.declared.carried_clocks.CarriedClocks.{CarriedClocks}
use Rattle.d3d_machine.specs.declared.world.World.{World}
use Rattle.d3d_machine.specs.declared.events.Operation.{Operation}
use Rattle.d3d_machine.specs.declared.events.Operation.TheVariants as operation
use Rattle.dx_base.specs.Lists.{changed_at}
use Rattle.d3d_judge.specs.Carried.{Update, Pending, Armed, Clocks, one_completion_more, completing, updated, carried, first_clocks}
use Rattle.d3d_judge.specs.Happenings.{Happening, Calls, Wakes, Completes, work_of}

abbrev pub update_of : FenceUpdate → Update
update_of u = record { value = u.value; clock = u.clock }

abbrev pub updates_in : Roomy FenceUpdate → List Update
updates_in r = map update_of r.items

-- no operation of a queue is a wait
abbrev pub pending_of : GivenWork → Pending
pending_of p = record { what = work_of p.operation; clock = p.clock; since = 0 }

abbrev pub pending_in : Roomy GivenWork → List Pending
pending_in r = map pending_of r.items

abbrev pub armed_of : ThreadWait → Armed
armed_of x = record { fence = x.fence; value = x.value; since = x.since }

-- the clocks of the code
abbrev pub clocks_of : CarriedClocks → Clocks
clocks_of s = record {
  ends = s.ends;
  threads = s.threads;
  queues = s.queues;
  pending = map pending_in s.pending;
  updates = map updates_in s.updates;
  waits = map armed_of s.waits;
}

-- a clock has a number for each of the queues and threads
pub record IsSized (queues threads : ℕ) (c : Clock) : Type 0 where
  pub queues_are : length c.queues ≡ queues
  pub threads_are : length c.threads ≡ threads

-- there is a clock for each queue and thread, updates for each fence, and each clock has a number for each queue and thread
pub record AreSized (queues threads fences : ℕ) (s : Clocks) : Type 0 where
  pub queue_count : length s.queues ≡ queues
  pub thread_count : length s.threads ≡ threads
  pub pending_count : length s.pending ≡ queues
  pub fence_count : length s.updates ≡ fences
  pub wait_count : length s.waits ≡ threads
  pub ends : IsSized queues threads s.ends
  pub of_threads : Each (IsSized queues threads) s.threads
  pub of_queues : Each (IsSized queues threads) s.queues
  pub of_pending : Each (λ ps. Each (λ p. IsSized queues threads p.clock) ps) s.pending
  pub of_updates : Each (λ us. Each (λ u. IsSized queues threads u.clock) us) s.updates

-- two clocks have as many numbers
pub record SameSize (c d : Clock) : Type 0 where
  pub queues_are : length c.queues ≡ length d.queues
  pub threads_are : length c.threads ≡ length d.threads

-- each clock has as many numbers as that of each update
abbrev pub AreAlike : List Update → List Clock → Type 0
AreAlike us cs = Each (λ c. Each (λ u. SameSize c u.clock) us) cs

-- there is room for one item more at a place
abbrev pub HasRoom : {T : Type 0} → List (Roomy T) → ℕ → Type 0
HasRoom {T} xs k = (r : Roomy T) → slice_get xs k ≡ Some r → 1 ≤ r.spare

-- what the update at a place knows; nothing where there is none
abbrev pub clock_at : List FenceUpdate → ℕ → Clock
clock_at [] k = empty_clock
clock_at (u ∷ us) zero = u.clock
clock_at (u ∷ us) (suc k) = clock_at us k

-- the oldest operation of a queue
abbrev pub oldest_in : Option (Roomy GivenWork) → Option GivenWork
oldest_in None = None
oldest_in (Some r) = slice_get r.items 0

abbrev pub oldest_work : List (Roomy GivenWork) → ℕ → Option GivenWork
oldest_work ps q = oldest_in (slice_get ps q)

abbrev pub is_execute : Option Operation → Bool
is_execute None = false
is_execute (Some (operation.Execute cs)) = true
is_execute (Some (operation.Signal f v)) = false

-- there is room for the update that an operation gives a fence, where there is that fence
abbrev pub IsRoomFor : List (Roomy FenceUpdate) → Operation → Type 0
IsRoomFor us (operation.Execute cs) = Unit {0}
IsRoomFor us (operation.Signal f v) = HasRoom us f.0

-- there is room for the update that the oldest operation of a queue gives a fence
abbrev pub HasRoomFor : CarriedClocks → ℕ → Type 0
HasRoomFor s q = (p : GivenWork) → oldest_work s.pending q ≡ Some p → IsRoomFor s.updates p.operation

-- the clocks after an operation completed, but for the queue's pending operations
abbrev pub worked : Clocks → ℕ → Pending → Clocks
worked s q p = record s {
  ends = one_completion_more s.ends q;
  queues = changed_at (λ _. completing s q p) q s.queues;
  updates = updated (completing s q p) p.what s.updates;
}

-- a happening is of one of the first threads or queues
abbrev pub IsOfSize : ℕ → ℕ → Happening → Type 0
IsOfSize queues threads (Calls t what) = t < threads
IsOfSize queues threads (Wakes t) = t < threads
IsOfSize queues threads (Completes q) = q < queues

-- the sizes of clocks are those of the world at first, and stay along a history
pub record SizesStay : Type 0 where
  pub first : (w : World) → AreSized (length w.queues) (length w.scripts) (length w.fences) (first_clocks w)
  pub next : (n m f : ℕ) (s : Clocks) (e : Happening) → IsOfSize n m e → AreSized n m f s → AreSized n m f (carried s e)
