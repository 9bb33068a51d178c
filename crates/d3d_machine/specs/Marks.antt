-- Waits of threads, with their marks counted from the update that was current at the call.
use Rattle.std.specs.Prelude.{ℕ, ◌≡◌, ◌==◌, ◌||◌, nat_le, List, [], ◌∷◌, ◌++◌, length, Bool, false}
use Rattle.std.specs.List.{list_any}
use Rattle.dx_base.specs.declared.ids.ThreadId.{ThreadId}
use Rattle.dx_base.specs.declared.ids.FenceId.{FenceId}
use Rattle.d3d_machine.specs.declared.world.World.{World}
use Rattle.d3d_machine.specs.declared.calls.Call.TheVariants as call
use Rattle.d3d_machine.specs.declared.calls.Reply.{Reply}
use Rattle.d3d_machine.specs.declared.events.Event.{Event}
use Rattle.d3d_machine.specs.declared.events.Event.TheVariants as event
use Rattle.d3d_machine.specs.State.{Waiting, first_state}
use Rattle.d3d_machine.specs.Play.{calls_in}
use Rattle.d3d_machine.specs.Fences.{updates_from, applied_updates, is_met}

-- a wait with the mark that the applied updates give it, where the update of that place was current at its call
abbrev pub waiting_at : World → List Event → ℕ → ℕ → ℕ → Waiting
waiting_at w h f v since = record { fence = f; value = v; marked = is_met (applied_updates w h f) since v }

-- a wait after more updates of its fence
abbrev pub marked_by : Waiting → List ℕ → Waiting
marked_by x us = record x { marked = x.marked || list_any (λ u. nat_le x.value u) us }

-- the place of the current update of a fence among the applied ones
abbrev pub current_update : World → List Event → ℕ → ℕ
current_update w h f = length (updates_from w (first_state w) f h)

-- the event is that thread's waking
abbrev pub is_awake_of : ℕ → Event → Bool
is_awake_of t (event.Call u c r) = false
is_awake_of t (event.Awake u) = u.0 == t
is_awake_of t (event.Queue q) = false

-- a wait of a thread comes from its last call of the history, and is marked exactly where an update is at
-- least its value that was current at that call or applied since
pub record IsMetSince (w : World) (h : List Event) (t : ℕ) (x : Waiting) : Type 0 where
  pub before : List Event
  pub behind : List Event
  pub thread : ThreadId
  pub fence : FenceId
  pub reply : Reply
  pub of_thread : thread.0 ≡ t
  pub of_fence : fence.0 ≡ x.fence
  pub history : h ≡ before ++ event.Call thread (call.HostWait fence x.value) reply ∷ behind
  pub last : calls_in t behind ≡ []
  pub mark : x.marked ≡ is_met (applied_updates w h x.fence) (current_update w before x.fence) x.value
