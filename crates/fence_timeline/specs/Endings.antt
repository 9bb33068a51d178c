-- How the list of pending updates ends: so many of the last ones are of one queue, and the one before them of another.
use Rattle.std.specs.Prelude.{ℕ, ◌≡◌, ◌≢◌, ◌≤◌, ◌<◌, ◌-◌, List, ◌∷◌, length, drop, slice_get, Some}
use Rattle.dx_base.specs.Each.{Each}
use Rattle.fence_timeline.specs.declared.update.Target.{Target}
use Rattle.fence_timeline.specs.declared.update.Target.TheVariants.{Host, Gpu}
use Rattle.fence_timeline.specs.declared.update.Update.{Update}
use Rattle.fence_timeline.specs.FenceList.{caught, left, HaveCounters}

-- a queue makes an update
abbrev pub IsOf : ℕ → Target → Type 0
IsOf q Host = ⊥
IsOf q (Gpu p v) = p ≡ q

-- another queue makes it
abbrev pub IsOfOther : ℕ → Target → Type 0
IsOfOther q Host = ⊥
IsOfOther q (Gpu p v) = p ≢ q

pub record EndsAlike (ending : ℕ) (us : List Update) : Type 0 where
  pub queue : ℕ
  pub some : 1 ≤ ending
  pub own : Each (λ u. IsOf queue u.target) (drop (length us - ending) us)
  pub other : (u : Update) → ending < length us → slice_get us (length us - 1 - ending) ≡ Some u → IsOfOther queue u.target

-- an update is the first, and the counters reached it
pub record StandsReached (counters : List ℕ) (us : List Update) (u : Update) : Type 0 where
  pub first : us ≡ u ∷ drop 1 us
  pub caught_is : caught counters us ≡ u ∷ caught counters (drop 1 us)
  pub left_is : left counters us ≡ left counters (drop 1 us)
  pub rest : HaveCounters counters (drop 1 us)

-- an update stands before so many last ones
pub record StandsBefore (ending : ℕ) (us : List Update) (u : Update) : Type 0 where
  pub fewer : ending < length us
  pub stands : slice_get us (length us - 1 - ending) ≡ Some u
