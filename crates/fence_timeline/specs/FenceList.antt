-- A fence as a list of updates: its starting value, host signals and completed signals, which are applied, and then the
-- signals that are pending on queues, in the order in which they were submitted.
use Rattle.std.specs.Prelude.{ℕ, ◌≡◌, ◌≤◌, ◌<◌, ◌+◌, ◌-◌, ◌==◌, nat_le, List, [], ◌∷◌, ◌++◌, length, take, drop, slice_get, slice_index, Option, Some, None, is_some, Bool, true, if◌then◌else◌}
use Rattle.std.specs.Option.{option_map, option_or}
use Rattle.dx_base.specs.declared.ids.FenceId.{FenceId}
use Rattle.dx_base.specs.Each.{Each}
use Rattle.fence_timeline.specs.declared.update.Target.{Target}
use Rattle.fence_timeline.specs.declared.update.Target.TheVariants.{Host, Gpu}
use Rattle.fence_timeline.specs.declared.update.Update.{Update}
use Rattle.fence_timeline.specs.declared.wait.Wait.{Wait}
use Rattle.fence_timeline.specs.Sufficient.{first_sufficient}
use Rattle.fence_timeline.specs.Waits.{AreNumbered, without, earliest, AreInOrder}

-- a fence: the updates from the number `base` on, of which so many are applied, the armed waits, and how many signals
-- it can take without asking for memory
pub record FenceList : Type 0 where
  pub id : FenceId
  pub base : ℕ
  pub updates : List Update
  pub applied : ℕ
  pub armed : List Wait
  pub spare : ℕ

-- the same, apart from the room
pub record IsSame (s t : FenceList) : Type 0 where
  pub id : s.id ≡ t.id
  pub base : s.base ≡ t.base
  pub updates : s.updates ≡ t.updates
  pub applied : s.applied ≡ t.applied
  pub armed : s.armed ≡ t.armed

abbrev pub applied_of : FenceList → List Update
applied_of s = take s.applied s.updates

abbrev pub pending_of : FenceList → List Update
pending_of s = drop s.applied s.updates

-- the number of the update that is current: the last applied one
abbrev pub current : FenceList → ℕ
current s = s.base + (s.applied - 1)

-- the fence's value: that of the last applied update
abbrev pub value_at : Option Update → ℕ
value_at None = 0
value_at (Some u) = u.value

abbrev pub value_of : FenceList → ℕ
value_of s = value_at (slice_get s.updates (s.applied - 1))

-- what the fence's calls keep: an update is applied, no update is kept that no wait may need, and none is lost that
-- one may need; the waits are the fence's own, each with a number of its own
pub record IsFenceList (s : FenceList) : Type 0 where
  pub some : 1 ≤ s.applied
  pub inside : s.applied ≤ length s.updates
  pub base : s.base ≡ earliest (current s) s.armed
  pub in_order : AreInOrder s.base s.armed (current s)
  pub numbered : AreNumbered 0 s.armed
  pub own : Each (λ w. w.fence ≡ s.id) s.armed

-- a wait's target: the update current at its call if its value suffices, else the first later one that suffices
abbrev pub resolved : FenceList → Wait → Option Target
resolved s w = option_map (λ u. u.target) (first_sufficient w.value (drop (w.since - s.base) s.updates))

-- a wait is met: an applied one of these suffices
abbrev pub is_met : FenceList → Wait → Bool
is_met s w = is_some (first_sufficient w.value (drop (w.since - s.base) (applied_of s)))

-- the queue and the value of an update of another queue
abbrev pub other_queue : ℕ → Target → Option (ℕ × ℕ)
other_queue q Host = None
other_queue q (Gpu p v) = if (p == q) then None else Some (p, v)

-- the last of the updates that another queue makes
abbrev pub last_other : ℕ → List Update → Option (ℕ × ℕ)
last_other q [] = None
last_other q (u ∷ us) = option_or (last_other q us) (other_queue q u.target)

-- an update's queue has reached it
abbrev pub is_reached : List ℕ → Target → Bool
is_reached counters Host = true
is_reached counters (Gpu q v) = nat_le v (slice_index counters q)

-- there is a counter for the queue of an update
abbrev pub HasCounter : List ℕ → Target → Type 0
HasCounter counters Host = Unit {0}
HasCounter counters (Gpu q v) = q < length counters

abbrev pub HaveCounters : List ℕ → List Update → Type 0
HaveCounters counters us = Each (λ u. HasCounter counters u.target) us

-- the longest prefix of the updates that the counters all reached
abbrev pub caught : List ℕ → List Update → List Update
caught counters [] = []
caught counters (u ∷ us) = if is_reached counters u.target then u ∷ caught counters us else []

-- the updates behind it
abbrev pub left : List ℕ → List Update → List Update
left counters [] = []
left counters (u ∷ us) = if is_reached counters u.target then left counters us else u ∷ us

-- without the updates that no armed wait may need
abbrev pub let_go : FenceList → FenceList
let_go s =
    let first = earliest (current s) s.armed in
    record {
      id = s.id;
      base = first;
      updates = drop (first - s.base) s.updates;
      applied = s.applied - (first - s.base);
      armed = s.armed;
      spare = s.spare;
    }

abbrev pub host_update : ℕ → Update
host_update v = record { value = v; target = Host }

abbrev pub gpu_update : ℕ → ℕ → ℕ → Update
gpu_update v q at = record { value = v; target = Gpu q at }

-- a new fence
abbrev pub new_list : FenceId → ℕ → ℕ → FenceList
new_list f v room = record { id = f; base = 0; updates = host_update v ∷ []; applied = 1; armed = []; spare = room }

-- the pending updates that the counters reached are applied, as far as all before them are
abbrev pub caught_up : List ℕ → FenceList → FenceList
caught_up counters s = let_go (record s { applied = s.applied + length (caught counters (pending_of s)) })

-- an update is applied behind those applied
abbrev pub host_signalled : ℕ → FenceList → FenceList
host_signalled v s = let_go (record s { updates = applied_of s ++ (host_update v ∷ pending_of s); applied = s.applied + 1 })

-- an update is pending behind the others
abbrev pub gpu_signalled : Update → FenceList → FenceList
gpu_signalled u s = record s { updates = s.updates ++ u ∷ [] }

-- a wait is armed
abbrev pub armed_with : Wait → FenceList → FenceList
armed_with w s = record s { armed = s.armed ++ w ∷ [] }

-- a wait is let go of, and the updates that it alone may need
abbrev pub done_with : Wait → FenceList → FenceList
done_with w s = let_go (record s { armed = without w.number s.armed })

-- a wait for a value, called now, with a greater number than each that is armed
pub record IsWaitFrom (s : FenceList) (v : ℕ) (w : Wait) : Type 0 where
  pub fence : w.fence ≡ s.id
  pub value : w.value ≡ v
  pub since : w.since ≡ current s
  pub fresh : Each (λ x. x.number < w.number) s.armed
