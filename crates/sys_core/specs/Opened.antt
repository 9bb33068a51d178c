-- The device before any call.
use Rattle.std.specs.Prelude.{◌≡◌, ◌≤◌, ◌⊎◌, [], Some, None}
use Rattle.d3d_machine.specs.declared.world.World.{World}
use Rattle.vk_sync_rules.specs.VkState.{VkState as Machine, first_state}
use Rattle.vk_port.specs.DeviceView.{DeviceView}
use Rattle.sys_core.specs.declared.faults.SysFault.{SysFault}
use Rattle.sys_core.specs.Answered.{HasFaultCause}
use Rattle.sys_core.specs.Lowering.{plan_of_world, opening_batches}
use Rattle.sys_core.specs.Steps.{after_submits}

-- the machine of a device with the world's objects and the batches before any call
abbrev pub opened : World → Machine
opened w = after_submits (first_state (plan_of_world w)) (opening_batches w)

-- a device that was given nothing to do: it has no plan, or the world's objects as they are at first
abbrev pub IsUnopened : World → DeviceView → Type 0
IsUnopened w d = (d.plan ≡ None) ⊎ ((d.plan ≡ Some (plan_of_world w)) × (d.state ≡ first_state (plan_of_world w)))

-- a device that is given back, since the system could not begin: it has no batch and was given nothing to do, and its free
-- steps are as before; it is lost only where its faults rose
pub record IsGivenBack (w : World) (before after : DeviceView) (fault : SysFault) : Type 0 where
  pub no_batch : after.state.journal ≡ []
  pub unopened : IsUnopened w after
  pub rest : after.rest ≡ before.rest
  pub faults : before.faults ≤ after.faults
  pub cause : HasFaultCause fault before.faults after.faults
