-- The steps of the system by choices.
use Rattle.std.specs.Prelude.{ℕ, ◌≡◌, ◌<◌, ◌+◌, ◌%◌, List, [], ◌∷◌, ◌++◌, length, slice_get, Some}
use Rattle.dx_base.specs.declared.steps.Step.{Step}
use Rattle.dx_base.specs.declared.steps.Step.TheVariants as step
use Rattle.dx_base.specs.declared.hresult.Hresult.{Hresult}
use Rattle.dx_base.specs.declared.ids.ThreadId.{ThreadId}
use Rattle.d3d_machine.specs.declared.world.World.{World}
use Rattle.d3d_machine.specs.declared.calls.Call.{Call}
use Rattle.d3d_machine.specs.declared.calls.Reply.TheVariants as reply
use Rattle.d3d_machine.specs.declared.events.Event.{Event}
use Rattle.d3d_machine.specs.declared.events.Event.TheVariants as event
use Rattle.d3d_machine.specs.Laws.{HasNoEffect}
use Rattle.d3d_machine.specs.Play.{IsFinished, state_after}
use Rattle.verdicts.specs.declared.rules.Verdict.TheVariants.{Clean}
use Rattle.vk_sync_rules.specs.VkState.{VkState as Machine}
use Rattle.vk_port.specs.Machine.{shown}
use Rattle.vk_port.specs.VkState.{VkState}
use Rattle.sys_core.specs.Keeps.{SysView}
use Rattle.sys_core.specs.Steps.{enabled_of, submitted_batches, after_submits, IsDeviceStep}
use Rattle.sys_core.specs.ThreadSteps.{IsThreadStep}
use Rattle.vk_port.specs.Left.{steps_left}
use Rattle.sys_core.specs.StepCount.{rest_used, count_calls, count_wakings, batches_steps}
use Rattle.sys_core.specs.Work.{work}

-- the state of the system: its history, and its device's machine; the operations that are called and not submitted are
-- those of the history whose batches the machine does not have
pub record SysState : Type 0 where
  pub history : List Event
  pub machine : Machine

-- the state of a system
abbrev pub state_of : {D : Type 0} → SysView D → SysState
state_of s = record { history = s.history; machine = s.device.state }

-- a step leads from one state to another
abbrev pub IsStep : World → SysState → Step → SysState → Type 0
IsStep w s (step.Thread t) u = IsThreadStep w s.history u.history s.machine u.machine t
IsStep w s (step.Worker q) u = u ≡ record {
  history = s.history;
  machine = after_submits s.machine (submitted_batches w s.history (shown s.machine) q);
}
IsStep w s (step.Device k) u = IsDeviceStep s.history u.history s.machine u.machine k

-- one choice: the system has not finished, and the step is the one that can be taken whose place is the choice modulo their
-- number, by the verdict so far, which is Clean for now; `free` is how many free steps the device offers, which are none where it has none left to take
pub record Chooses (w : World) (rest c : ℕ) (s u : SysState) : Type 0 where
  pub running : IsFinished w (state_after w s.history).desk → ⊥
  pub free : ℕ
  pub none_free : rest ≡ 0 → free ≡ 0
  pub step : Step
  pub some : 0 < length (enabled_of w s.history Clean (shown s.machine) free)
  pub chosen : slice_get (enabled_of w s.history Clean (shown s.machine) free) (c % length (enabled_of w s.history Clean (shown s.machine) free)) ≡ Some step
  pub goes : IsStep w s step u

-- choices lead from one state to another by these steps, on a device that has so many free steps left to take before them,
-- and so many behind them: one fewer behind each free step
abbrev pub Goes : World → ℕ → SysState → List ℕ → List Step → ℕ → SysState → Type 0
Goes w rest s [] [] left t = (s ≡ t) × (rest ≡ left)
Goes w rest s [] (k ∷ ks) left t = ⊥
Goes w rest s (c ∷ cs) [] left t = ⊥
Goes w rest s (c ∷ cs) (k ∷ ks) left t =
    (u : SysState) × (now : ℕ) × (m : Chooses w rest c s u) × (m.step ≡ k) × (rest ≡ now + rest_used (shown s.machine) k) × Goes w now u cs ks left t

-- the events of threads, and the batches with the steps that they take
abbrev pub tally : List Event → VkState → ℕ
tally h v = (count_calls h + count_wakings h) + (length v.journal + batches_steps v.journal)

-- a step of the system was taken: it is one more call, waking or batch, one free step fewer, or one step fewer that is left
-- of the device's batches
pub record WasTaken {D : Type 0} (k : Step) (s u : SysView D) : Type 0 where
  pub world : u.world ≡ s.world
  pub goes : IsStep s.world (state_of s) k (state_of u)
  pub rest : s.device.rest ≡ u.device.rest + rest_used (shown s.device.state) k
  pub counts : (tally u.history (shown u.device.state) + steps_left (shown s.device.state)) + s.device.rest
      ≡ (tally s.history (shown s.device.state) + steps_left (shown u.device.state)) + (u.device.rest + 1)
  pub falls : work u.world u.history (shown u.device.state) + u.device.rest < work s.world s.history (shown s.device.state) + s.device.rest

-- where a call was answered by an error, it had no effect: the device's machine is as before, and so is the Direct3D machine
-- but for what a refused call does
abbrev pub AreRefusalsIdle : World → SysState → SysState → Type 0
AreRefusalsIdle w s u =
    (t : ThreadId) (c : Call) (e : Hresult) → u.history ≡ s.history ++ event.Call t c (reply.Error e) ∷ [] →
    (u.machine ≡ s.machine) × HasNoEffect (state_after w s.history) (state_after w u.history) t c

-- nothing of the system has changed but the device's count of faults
pub record Stays {D : Type 0} (s u : SysView D) : Type 0 where
  pub world : u.world ≡ s.world
  pub history : u.history ≡ s.history
  pub device : u.device ≡ record s.device { faults = u.device.faults }
