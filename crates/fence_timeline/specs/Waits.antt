-- The armed waits of a fence.
use Rattle.std.specs.Prelude.{ℕ, suc, ◌≡◌, ◌≤◌, ◌<◌, ◌==◌, List, [], ◌∷◌, slice_get, Some, if◌then◌else◌}
use Rattle.dx_base.specs.Each.{Each}
use Rattle.fence_timeline.specs.declared.wait.Wait.{Wait}

-- a wait is one of a list
pub record IsIn (ws : List Wait) (w : Wait) : Type 0 where
  pub place : ℕ
  pub stands : slice_get ws place ≡ Some w

-- the numbers rise, from a least one on
abbrev pub AreNumbered : ℕ → List Wait → Type 0
AreNumbered low [] = Unit {0}
AreNumbered low (w ∷ ws) = (low ≤ w.number) × AreNumbered (suc w.number) ws

-- the waits that are left without the one of that number
abbrev pub without : ℕ → List Wait → List Wait
without n [] = []
without n (w ∷ ws) = if (w.number == n) then ws else w ∷ without n ws

-- the number of the earliest update that a wait may need: of the current one where no wait is armed, and otherwise of
-- the one that was current when the first was armed
abbrev pub earliest : ℕ → List Wait → ℕ
earliest current [] = current
earliest current (w ∷ ws) = w.since

-- the updates that were current when the waits were armed: none before a first number, none behind a last one, and
-- none before that of an earlier wait
abbrev pub AreInOrder : ℕ → List Wait → ℕ → Type 0
AreInOrder low [] high = low ≤ high
AreInOrder low (w ∷ ws) high = (low ≤ w.since) × AreInOrder w.since ws high

-- the armed waits, and the number of the next
pub record IsWaits (ws : List Wait) (next : ℕ) : Type 0 where
  pub numbered : AreNumbered 0 ws
  pub below : Each (λ w. w.number < next) ws
