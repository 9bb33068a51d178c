-- The tests by which the steps that can be taken are found in the system's parts, and what a search for one of them answers.
use Rattle.std.specs.Prelude.{ℕ, ◌≡◌, ◌+◌, List, length, slice_get, Some, None, Bool, false, nat_lt, Result, Ok, Err}
use Rattle.dx_base.specs.declared.steps.Step.{Step}
use Rattle.d3d_machine.specs.declared.world.World.{World}
use Rattle.d3d_machine.specs.State.{script_of}
use Rattle.sys_core.specs.declared.parts.Held.{Held}
use Rattle.sys_core.specs.declared.parts.Seat.{Seat}
use Rattle.sys_core.specs.Keeps.{ready_by}

-- the thread of that number can go on, by its seat
abbrev pub ready_at : World → List (List ℕ) → List Seat → ℕ → Bool
ready_at w fences seats t = elim (slice_get seats t) [ None ↦ false | Some s ↦ ready_by (script_of w t) fences s ]

-- the queue of that number has an operation that is not submitted
abbrev pub holds_at : List Held → ℕ → Bool
holds_at held q = elim (slice_get held q) [ None ↦ false | Some x ↦ nat_lt 0 (length x.operations.items) ]

-- the step of a place, counted from 0; or how many places it is behind the last
abbrev pub IsNth : List Step → ℕ → Result Step ℕ → Type 0
IsNth steps k (Ok s) = slice_get steps k ≡ Some s
IsNth steps k (Err left) = k ≡ length steps + left
