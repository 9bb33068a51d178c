-- The laws of fences as lists of updates, as types.
use Rattle.std.specs.Prelude.{ℕ, ◌≡◌, ◌≢◌, ◌-◌, List, [], ◌∷◌, ◌++◌, drop, Option, Some, None, is_some, true, false, if◌then◌else◌, filter}
use Rattle.std.specs.Option.{option_map, option_or}
use Rattle.dx_base.specs.Each.{Each}
use Rattle.fence_timeline.specs.declared.update.Update.{Update}
use Rattle.fence_timeline.specs.declared.wait.Wait.{Wait}
use Rattle.fence_timeline.specs.Sufficient.{suffices, first_sufficient}
use Rattle.fence_timeline.specs.Waits.{IsIn, without}
use Rattle.fence_timeline.specs.FenceList.{FenceList, IsFenceList, applied_of, pending_of, resolved, is_met, is_reached, caught, left, caught_up, host_signalled, host_update, done_with}

-- the first update that suffices for a wait, of the applied ones from that of its call on
abbrev pub first_applied : FenceList → Wait → Option Update
first_applied s w = first_sufficient w.value (drop (w.since - s.base) (applied_of s))

-- a wait's target is the first that suffices of the applied updates, from that of its call on, and then of the pending
-- ones; a host signal comes between
pub record TargetsInOrder : Type 0 where
  pub target : (s : FenceList) → (w : Wait) → IsFenceList s → IsIn s.armed w →
      resolved s w ≡ option_map (λ u. u.target) (option_or (first_applied s w) (first_sufficient w.value (pending_of s)))
  pub host : (s : FenceList) → (w : Wait) → (v : ℕ) → IsFenceList s → IsIn s.armed w →
      resolved (host_signalled v s) w
      ≡ option_map (λ u. u.target) (option_or (first_applied s w) (option_or (first_sufficient w.value (host_update v ∷ [])) (first_sufficient w.value (pending_of s))))

-- what the counters reached is applied in order: first those that are caught, all of them reached, and behind them
-- those that are left, the first of them not reached
abbrev pub BeginsUnreached : List ℕ → List Update → Type 0
BeginsUnreached counters [] = Unit {0}
BeginsUnreached counters (u ∷ us) = is_reached counters u.target ≡ false

-- no update is reached before an earlier one of the list
abbrev pub AreReachedInOrder : List ℕ → List Update → Type 0
AreReachedInOrder counters [] = Unit {0}
AreReachedInOrder counters (u ∷ us) =
    (is_reached counters u.target ≡ false → Each (λ x. is_reached counters x.target ≡ false) us) × AreReachedInOrder counters us

pub record CatchesUpInOrder : Type 0 where
  pub parts : (counters : List ℕ) → (us : List Update) → caught counters us ++ left counters us ≡ us
  pub reached : (counters : List ℕ) → (us : List Update) → Each (λ u. is_reached counters u.target ≡ true) (caught counters us)
  pub unreached : (counters : List ℕ) → (us : List Update) → BeginsUnreached counters (left counters us)
  pub all : (counters : List ℕ) → (us : List Update) → AreReachedInOrder counters us → caught counters us ≡ filter (λ u. is_reached counters u.target) us

-- the update that marks a wait, where updates come one after another: a mark stays, and is set by one that suffices
abbrev pub marked_by : Option Update → ℕ → List Update → Option Update
marked_by m v [] = m
marked_by m v (u ∷ us) = marked_by (option_or m (if suffices v u then Some u else None)) v us

-- a wait is met exactly where the updates from that of its call on mark it, and the first that suffices marks it
pub record MarksWhatSuffices : Type 0 where
  pub first : (v : ℕ) → (us : List Update) → marked_by None v us ≡ first_sufficient v us
  pub met : (s : FenceList) → (w : Wait) → is_met s w ≡ is_some (marked_by None w.value (drop (w.since - s.base) (applied_of s)))

-- letting go of updates loses none that an armed wait needs: its target stays, and whether it is met
pub record NothingIsLost : Type 0 where
  pub catching_up : (s : FenceList) → (w : Wait) → (counters : List ℕ) → IsFenceList s → IsIn s.armed w → resolved (caught_up counters s) w ≡ resolved s w
  pub letting_go : (s : FenceList) → (w other : Wait) → IsFenceList s → IsIn s.armed w → IsIn (without w.number s.armed) other →
      (resolved (done_with w s) other ≡ resolved s other) × (is_met (done_with w s) other ≡ is_met s other)
  pub others : (ws : List Wait) → (w other : Wait) → IsIn ws other → other.number ≢ w.number → IsIn (without w.number ws) other
