-- How far the search for an update that meets a thread's wait has come.
use Rattle.std.specs.Prelude.{ℕ, ◌≡◌, ◌≤◌, List, length, Option, Some, None}
use Rattle.dx_base.specs.Each.{Each}
use Rattle.d3d_machine.specs.Fences.{is_met}
use Rattle.d3d_machine.specs.Past.{updates_at}
use Rattle.sys_core.specs.declared.parts.Armed.{Armed}
use Rattle.sys_core.specs.declared.parts.Seat.{Seat}

-- the updates from the place on from which they are still to be looked at say of the wait what those since its call say
pub record IsSearched (us : List ℕ) (a : Armed) : Type 0 where
  pub since_within : a.since ≤ length us
  pub seen_within : a.seen ≤ length us
  pub tells : is_met us a.since a.value ≡ is_met us a.seen a.value

abbrev pub IsWaitSearched : List (List ℕ) → Option Armed → Type 0
IsWaitSearched fences None = Unit {0}
IsWaitSearched fences (Some a) = IsSearched (updates_at fences a.fence.0) a

-- so for the wait of each thread
abbrev pub AreSearched : List (List ℕ) → List Seat → Type 0
AreSearched fences seats = Each (λ (s : Seat). IsWaitSearched fences s.waits) seats
