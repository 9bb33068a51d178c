-- A step that a choice names, and what a refused one leaves.
use Rattle.std.specs.Prelude.{ℕ, ◌≡◌, ◌+◌, ◌⊎◌, List, [], ◌∷◌, ◌++◌, length, take}
use Rattle.dx_base.specs.declared.steps.Step.{Step}
use Rattle.d3d_machine.specs.declared.world.World.{World}
use Rattle.d3d_machine.specs.declared.events.Event.{Event}
use Rattle.vk_port.specs.DeviceView.{DeviceView}
use Rattle.vk_port.specs.Machine.{shown}
use Rattle.sys_core.specs.Goes.{SysState, state_of, Chooses, Goes, WasTaken, Stays}
use Rattle.sys_core.specs.Keeps.{SysView}
use Rattle.sys_core.specs.Opened.{opened}
use Rattle.sys_core.specs.StepCount.{AreCounted}
use Rattle.trace_runner.specs.declared.log.Log.{Log}

-- one more choice was drawn, and the step that it names was taken
pub record TookStep {D : Type 0} (s u : SysView D) (before after : Log) : Type 0 where
  pub choice : ℕ
  pub chooses : Chooses s.world s.device.rest choice (state_of s) (state_of u)
  pub taken : WasTaken chooses.step s u
  pub choices : after.choices.items ≡ before.choices.items ++ choice ∷ []
  pub steps : after.taken.items ≡ before.taken.items ++ chooses.step ∷ []

-- no step was taken; a choice may have been drawn
pub record TookNone {D : Type 0} (s u : SysView D) (before after : Log) : Type 0 where
  pub stays : Stays s u
  pub drawn : (after.choices.items ≡ before.choices.items) ⊎ ((c : ℕ) × (after.choices.items ≡ before.choices.items ++ c ∷ []))
  pub taken : after.taken.items ≡ before.taken.items

-- the system before any call
abbrev pub opening : World → SysState
opening w = record { history = []; machine = opened w }

-- the first choices, as many as steps were taken, lead from the opening state by these steps, on a device that had so many
-- free steps left to take and has so many now; one choice more may have been drawn; and the steps are counted
pub record Went (w : World) (rest : ℕ) (choices : List ℕ) (taken : List Step) (h : List Event) (d : DeviceView) : Type 0 where
  pub goes : Goes w rest (opening w) (take (length taken) choices) taken d.rest (record { history = h; machine = d.state })
  pub drawn : (length choices ≡ length taken) ⊎ (length choices ≡ length taken + 1)
  pub counted : AreCounted w rest d.rest (length taken) h (shown d.state)
