-- How a fence is kept: its applied updates from a number on, its pending ones, and its armed waits.
use Rattle.std.specs.Prelude.{ℕ, ◌≡◌, ◌≤◌, ◌+◌, ◌-◌, ◌^◌, min, List, ◌++◌, length}
use Rattle.dx_base.specs.declared.ids.FenceId.{FenceId}
use Rattle.dx_base.specs.Roomy.{Roomy}
use Rattle.dx_base.specs.Each.{Each}
use Rattle.fence_timeline.specs.declared.update.Update.{Update}
use Rattle.fence_timeline.specs.declared.wait.Wait.{Wait}
use Rattle.fence_timeline.specs.Waits.{AreNumbered, earliest, AreInOrder}
use Rattle.fence_timeline.specs.Endings.{EndsAlike}
use Rattle.fence_timeline.specs.FenceList.{FenceList}

-- how many signals the fence can take: those for which both lists have room, and there are numbers
abbrev pub spare_of : ℕ → Roomy Update → Roomy Update → ℕ
spare_of base applied pending =
    min pending.spare (min (applied.spare - length pending.items) (2 ^ 64 - 1 - (base + length applied.items + length pending.items)))

-- the fence as a list of updates
abbrev pub list_of : FenceId → ℕ → Roomy Update → Roomy Update → List Wait → FenceList
list_of f base applied pending ws = record {
  id = f;
  base = base;
  updates = applied.items ++ pending.items;
  applied = length applied.items;
  armed = ws;
  spare = spare_of base applied pending;
}

-- what is kept: there is room to apply each pending update, each update has a number, and no applied update is kept
-- that no wait may need
pub record IsFence (f : FenceId) (base : ℕ) (applied pending : Roomy Update) (ending : ℕ) (ws : List Wait) : Type 0 where
  pub some : 1 ≤ length applied.items
  pub room : length pending.items ≤ applied.spare
  pub fits : base + length applied.items + length pending.items ≤ 2 ^ 64 - 1
  pub base_is : base ≡ earliest (base + (length applied.items - 1)) ws
  pub in_order : AreInOrder base ws (base + (length applied.items - 1))
  pub numbered : AreNumbered 0 ws
  pub own : Each (λ w. w.fence ≡ f) ws
  pub ends : EndsAlike ending pending.items
