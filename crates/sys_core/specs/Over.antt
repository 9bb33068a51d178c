-- How far the system has come.
use Rattle.std.specs.Prelude.{ℕ, ◌≡◌, ◌<◌, List, length}
use Rattle.d3d_machine.specs.declared.world.World.{World}
use Rattle.d3d_machine.specs.declared.events.Event.{Event}
use Rattle.d3d_machine.specs.Play.{IsFinished, state_after}
use Rattle.verdicts.specs.declared.rules.Verdict.{Verdict}
use Rattle.verdicts.specs.Clean.{IsClean}
use Rattle.vk_port.specs.VkState.{VkState}
use Rattle.sys_core.specs.declared.over.Over.{Over}
use Rattle.sys_core.specs.declared.over.Over.TheVariants as over
use Rattle.sys_core.specs.Steps.{enabled_of}

-- the run goes on, is done, or is stalled, and no rule is broken so far; or one is. No record is torn so far
abbrev pub IsOver : World → List Event → Verdict → VkState → ℕ → Over → Type 0
IsOver w h x v free over.Running = (IsFinished w (state_after w h).desk → ⊥) × (0 < length (enabled_of w h x v free)) × IsClean x
IsOver w h x v free over.Done = IsFinished w (state_after w h).desk × IsClean x
IsOver w h x v free over.Stalled = (IsFinished w (state_after w h).desk → ⊥) × (length (enabled_of w h x v free) ≡ 0) × IsClean x
IsOver w h x v free over.Broken = IsClean x → ⊥
IsOver w h x v free over.Torn = ⊥
