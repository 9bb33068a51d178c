-- The updates that were current when waits were armed.
use Rattle.std.proofs.Common.{ℕ, zero, suc, ◌≡◌, ◌≤◌, refl, subst, List, [], ◌∷◌, ◌++◌, slice_get, Some, Bool, true, false, arith}
use Rattle.std.specs.Prelude.{◌==◌, if◌then◌else◌}
use Rattle.fence_timeline.specs.declared.wait.Wait.{Wait}
use Rattle.fence_timeline.specs.Waits.{without, earliest, AreInOrder}

pub ordered_le : (low high : ℕ) (ws : List Wait) → AreInOrder low ws high → low ≤ high
ordered_le low high [] is = is
ordered_le low high (w ∷ ws) is = omega (arith, is.0, ordered_le w.since high ws is.1)

-- the earliest update that is needed lies between the bounds
pub earliest_low : (low high : ℕ) (ws : List Wait) → AreInOrder low ws high → low ≤ earliest high ws
earliest_low low high [] is = is
earliest_low low high (w ∷ ws) is = is.0

pub earliest_high : (low high : ℕ) (ws : List Wait) → AreInOrder low ws high → earliest high ws ≤ high
earliest_high low high [] is = omega arith
earliest_high low high (w ∷ ws) is = ordered_le w.since high ws is.1

-- so does that of each wait
pub since_within : (low high : ℕ) (ws : List Wait) (k : ℕ) (w : Wait) → AreInOrder low ws high → slice_get ws k ≡ Some w → (low ≤ w.since) × (w.since ≤ high)
since_within low high [] k w is got = absurd (cc)
since_within low high (x ∷ ws) zero w is got =
    let same : x ≡ w = grind arith in
    subst (λ (y : Wait). (low ≤ y.since) × (y.since ≤ high)) same (is.0, ordered_le x.since high ws is.1)
since_within low high (x ∷ ws) (suc k) w is got =
    let later = since_within x.since high ws k w is.1 got in
    (omega (arith, is.0, later.0), later.1)

pub ordered_up : (low high more : ℕ) (ws : List Wait) → high ≤ more → AreInOrder low ws high → AreInOrder low ws more
ordered_up low high more [] le is = omega (arith, is)
ordered_up low high more (w ∷ ws) le is = (is.0, ordered_up w.since high more ws le is.1)

pub ordered_down : (less low high : ℕ) (ws : List Wait) → less ≤ low → AreInOrder low ws high → AreInOrder less ws high
ordered_down less low high [] le is = omega (arith, is)
ordered_down less low high (w ∷ ws) le is = (omega (arith, is.0), is.1)

-- from the earliest on
pub ordered_from : (low high : ℕ) (ws : List Wait) → AreInOrder low ws high → AreInOrder (earliest high ws) ws high
ordered_from low high [] is = omega arith
ordered_from low high (w ∷ ws) is = (omega arith, is.1)

-- the waits that are left
pub ordered_without : (low high n : ℕ) (ws : List Wait) → AreInOrder low ws high → AreInOrder low (without n ws) high
ordered_without low high n [] is = is
ordered_without low high n (w ∷ ws) is = by_test (w.number == n) (ordered_without w.since high n ws is.1)
  where
    by_test : (b : Bool) → AreInOrder w.since (without n ws) high → AreInOrder low (if b then ws else w ∷ without n ws) high
    by_test true rest = ordered_down low w.since high ws is.0 is.1
    by_test false rest = (is.0, rest)

-- a wait that is armed now
pub ordered_behind : (low high : ℕ) (ws : List Wait) (w : Wait) → AreInOrder low ws high → w.since ≡ high → AreInOrder low (ws ++ w ∷ []) high
ordered_behind low high [] w is now = (omega (arith, is), omega arith)
ordered_behind low high (x ∷ ws) w is now = (is.0, ordered_behind x.since high ws w is.1 now)

pub earliest_behind : (high : ℕ) (ws : List Wait) (w : Wait) → w.since ≡ high → earliest high (ws ++ w ∷ []) ≡ earliest high ws
earliest_behind high [] w now = now
earliest_behind high (x ∷ ws) w now = refl
