-- What contracts see of the system's parts, and how each kind of step changes them.
use Rattle.std.specs.Prelude.{ℕ, ◌≡◌, ◌≤◌, ◌+◌, ◌-◌, ◌==◌, List, [], ◌∷◌, ◌++◌, length, drop, slice_get, Option, Some, None, Bool, if◌then◌else◌}
use Rattle.std.specs.Option.{option_map}
use Rattle.dx_base.specs.Lists.{changed_at}
use Rattle.dx_base.specs.Roomy.{Roomy}
use Rattle.dx_base.specs.Effects.{At, changed_by}
use Rattle.d3d_machine.specs.declared.world.World.{World}
use Rattle.d3d_machine.specs.declared.calls.Call.{Call}
use Rattle.d3d_machine.specs.declared.events.Listed.{Listed}
use Rattle.d3d_machine.specs.declared.events.Operation.{Operation}
use Rattle.d3d_machine.specs.declared.events.Operation.TheVariants as operation
use Rattle.d3d_machine.specs.CallEffects.{does}
use Rattle.d3d_machine.specs.Effects.{with_one, operation_given, changed, done}
use Rattle.d3d_machine.specs.Fences.{is_met}
use Rattle.sys_core.specs.declared.parts.Armed.{Armed}
use Rattle.sys_core.specs.declared.parts.Seat.{Seat}
use Rattle.sys_core.specs.declared.parts.Signalled.{Signalled}
use Rattle.sys_core.specs.declared.parts.Held.{Held}
use Rattle.d3d_machine.specs.Past.{WaitSince, PlaceSince, updates_at}

-- a queue: its operations that are not submitted, how many are, the last submitted signal's number, and the
-- submitted signals that have not completed
pub record Queued : Type 0 where
  pub operations : List Operation
  pub submitted : ℕ
  pub last_signal : ℕ
  pub signals : List Signalled

-- a queue without operations
abbrev pub no_queue : Queued
no_queue = record { operations = []; submitted = 0; last_signal = 0; signals = [] }

-- a thread before its first call
abbrev pub opening_seat : Seat
opening_seat = record { made = 0; waits = None }

-- a held queue without its room
abbrev pub queued : Held → Queued
queued x = record { operations = x.operations.items; submitted = x.submitted; last_signal = x.last_signal; signals = x.signals.items }

-- the applied updates of a fence, without room
abbrev pub updates_in : Roomy ℕ → List ℕ
updates_in r = r.items

-- the lists after a call
abbrev pub lists_by : World → List Listed → Call → List Listed
lists_by w lists c = changed_by (changed w) (done w lists c).list lists

-- the place of a thread, in the past's words
abbrev pub wait_since : Armed → WaitSince
wait_since a = record { fence = a.fence.0; value = a.value; since = a.since }

abbrev pub place_since : Seat → PlaceSince
place_since s = record { made = s.made; waits = option_map wait_since s.waits }

-- the queue with one more operation
abbrev pub with_operation : Operation → Queued → Queued
with_operation o x = record x { operations = x.operations ++ o ∷ [] }

-- the queues after a call
abbrev pub held_by : World → List Listed → Call → List Queued → List Queued
held_by w lists c held = changed_by with_operation (operation_given lists (done w lists c).gives) held

-- the fences' updates after a call: a host signal gives its fence one more
abbrev pub fences_by : World → List Listed → Call → List (List ℕ) → List (List ℕ)
fences_by w lists c fences = changed_by with_one (done w lists c).sets fences

abbrev pub armed_or : List (List ℕ) → Option (At ℕ) → Option Armed → Option Armed
armed_or fences None o = o
armed_or fences (Some x) o = Some (record { fence = record { 0 = x.place }; value = x.what; since = length (updates_at fences x.place) - 1; seen = length (updates_at fences x.place) - 1 })

-- the wait of a thread after a call
abbrev pub armed_after : List (List ℕ) → Call → Option Armed → Option Armed
armed_after fences c o = armed_or fences (does c).waits o

-- the place of a thread after a call
abbrev pub seat_after : List (List ℕ) → Call → Seat → Seat
seat_after fences c s = record { made = s.made + 1; waits = armed_after fences c s.waits }

-- the place of a thread that goes on behind its wait
abbrev pub woken_seat : Seat → Seat
woken_seat s = record s { waits = None }

-- a thread's wait is met
abbrev pub is_met_by : List (List ℕ) → Armed → Bool
is_met_by fences a = is_met (updates_at fences a.fence.0) a.since a.value

-- the number of the last signal, when one more operation comes behind
abbrev pub last_with : ℕ → ℕ → Operation → ℕ
last_with n found (operation.Execute cs) = found
last_with n found (operation.Signal f v) = n

-- the signals of one operation
abbrev pub signal_of : ℕ → Operation → List Signalled
signal_of n (operation.Execute cs) = []
signal_of n (operation.Signal f v) = (record { number = n; fence = f; value = v }) ∷ []

-- a queue whose oldest operation is submitted
abbrev pub submitted_one : Operation → Queued → Queued
submitted_one o x = record {
  operations = drop 1 x.operations;
  submitted = x.submitted + 1;
  last_signal = last_with (x.submitted + 1) x.last_signal o;
  signals = x.signals ++ signal_of (x.submitted + 1) o;
}

-- the submitted signals when the oldest operation has completed
abbrev pub without_first : Operation → List Signalled → List Signalled
without_first (operation.Execute cs) xs = xs
without_first (operation.Signal f v) xs = drop 1 xs

-- a signal, where its operation has that number
abbrev pub with_number : ℕ → Option Signalled → Option Signalled
with_number n None = None
with_number n (Some s) = if (s.number == n) then Some s else None

-- the first submitted signal, where its operation has that number
abbrev pub signal_at : ℕ → Queued → Option Signalled
signal_at n x = with_number n (slice_get x.signals 0)

-- the queue, without its first submitted signal where there is one of that number
abbrev pub without : Option Signalled → Queued → Queued
without None x = x
without (Some s) x = record x { signals = drop 1 x.signals }

-- the fences' updates when that signal has completed
abbrev pub updated_by : Option Signalled → List (List ℕ) → List (List ℕ)
updated_by None fences = fences
updated_by (Some s) fences = changed_at (λ us. us ++ s.value ∷ []) s.fence.0 fences

-- the first submitted signal of a queue
abbrev pub first_signal : Queued → Option Signalled
first_signal x = slice_get x.signals 0

-- a fence can take one more update without asking for memory
pub record HasRoomAt (fences : List (Roomy ℕ)) (f : ℕ) : Type 0 where
  pub room : (r : Roomy ℕ) → slice_get fences f ≡ Some r → 1 ≤ r.spare

-- the fence of a signal can take one more update without asking for memory
abbrev pub HasRoomFor : Option Signalled → List (Roomy ℕ) → Type 0
HasRoomFor None fences = Unit {0}
HasRoomFor (Some s) fences = HasRoomAt fences s.fence.0

-- the fence of each queue's first submitted signal can take one more update without asking for memory
pub record HasRoomForEach (held : List Held) (fences : List (Roomy ℕ)) : Type 0 where
  pub each : (q : ℕ) (x : Held) → slice_get held q ≡ Some x → HasRoomFor (first_signal (queued x)) fences

-- a fence that could take one more update without asking for memory still can
pub record KeepsRoom (old new : List (Roomy ℕ)) : Type 0 where
  pub each : (f : ℕ) → HasRoomAt old f → HasRoomAt new f
