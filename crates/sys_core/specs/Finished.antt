-- The tests by which it is found in the system's parts that all is finished.
use Rattle.std.specs.Prelude.{ℕ, zero, suc, ◌+◌, ◌==◌, ◌&&◌, List, length, slice_get, Some, None, Bool, true, false}
use Rattle.d3d_machine.specs.declared.world.World.{World}
use Rattle.d3d_machine.specs.State.{script_of}
use Rattle.vk_port.specs.VkState.{VkState, counter_of}
use Rattle.sys_core.specs.declared.parts.Held.{Held}
use Rattle.sys_core.specs.declared.parts.Seat.{Seat}

-- a thread has made so many calls as its script has, and does not wait
abbrev pub has_ended_by : ℕ → Seat → Bool
has_ended_by calls s = elim s.waits [ None ↦ s.made == calls | Some a ↦ false ]

-- the thread of that number has ended, by its seat
abbrev pub has_ended_at : World → List Seat → ℕ → Bool
has_ended_at w seats t = elim (slice_get seats t) [ None ↦ false | Some s ↦ has_ended_by (length (script_of w t)) s ]

-- the queue of that number is empty: all its operations are submitted, and its timeline has come to the last
abbrev pub is_empty_at : List Held → VkState → ℕ → Bool
is_empty_at held v q = elim (slice_get held q) [ None ↦ false | Some x ↦ (length x.operations.items == 0) && (counter_of v q == x.submitted) ]

-- a test of the numbers from n on, so many of them
abbrev pub all_from : (ℕ → Bool) → ℕ → ℕ → Bool
all_from test n zero = true
all_from test n (suc k) = test n && all_from test (n + 1) k
