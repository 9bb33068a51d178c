-- The index of an update list: each entry knows the greatest value of a run of updates that ends with it.
use Rattle.std.specs.Prelude.{ℕ, suc, ◌≡◌, ◌≤◌, ◌<◌, ◌-◌, max, List, [], ◌∷◌, map, take, drop, slice_get, Some}
use Rattle.std.specs.Option.{option_or}
use Rattle.fence_timeline.specs.declared.update.Update.{Update}
use Rattle.fence_timeline.specs.declared.runs.Entry.{Entry}
use Rattle.fence_timeline.specs.Sufficient.{first_sufficient}

-- the updates of the entries
abbrev pub updates_in : List Entry → List Update
updates_in es = map (λ e. e.update) es

-- what stands from one place on and before another
abbrev pub between : {A : Type 0} → ℕ → ℕ → List A → List A
between from end xs = drop from (take end xs)

-- the greatest value among updates; 0 where there is none
abbrev pub greatest : List Update → ℕ
greatest [] = 0
greatest (u ∷ us) = max u.value (greatest us)

-- an entry at a place: its run has the update itself at least, and its peak is the greatest value of the run, where
-- the whole run is still in the list
pub record IsPeak (us : List Update) (i : ℕ) (e : Entry) : Type 0 where
  pub some : 1 ≤ e.run
  pub peak : e.run ≤ suc i → e.peak ≡ greatest (between (suc i - e.run) (suc i) us)

pub record IsIndexed (es : List Entry) : Type 0 where
  pub peaks : (i : ℕ) (e : Entry) → slice_get es i ≡ Some e → IsPeak (updates_in es) i e

-- a run between two places has the first update that suffices: one before its last, or else its last
pub record StartsRun (v : ℕ) (us : List Update) (from end first last : ℕ) : Type 0 where
  pub behind : from ≤ first
  pub filled : first ≤ last
  pub before : last < end
  pub update : Update
  pub at_last : slice_get us last ≡ Some update
  pub found : first_sufficient v (between from end us) ≡ option_or (first_sufficient v (between first last us)) (Some update)
