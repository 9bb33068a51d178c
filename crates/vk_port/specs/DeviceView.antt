-- A device, as its contract sees it.
use Rattle.std.specs.Prelude.{ℕ, ◌≡◌, ◌≤◌, Option, None, IsSome, Result, OnErr}
use Rattle.vk_types.specs.declared.plan.DevicePlan.{DevicePlan}
use Rattle.vk_sync_rules.specs.VkState.{VkState as Machine}
use Rattle.vk_port.specs.declared.faults.DeviceFault.{DeviceFault}
use Rattle.vk_port.specs.Causes.{HasCause}
use Rattle.vk_port.specs.Seen.{no_machine}

-- what a contract says of a device
pub record DeviceView : Type 0 where
  -- the plan that `create` was answered Ok for
  pub plan : Option DevicePlan
  -- the state of the Vulkan machine
  pub state : Machine
  -- how many free steps the device can still take
  pub rest : ℕ
  -- how many free steps it offers now
  pub offered : ℕ
  -- a count of faults, which never falls
  pub faults : ℕ

-- a new device without free steps
abbrev pub no_view : DeviceView
no_view = record { plan = None; state = no_machine; rest = 0; offered = 0; faults = 0 }

-- what each call that may fail keeps: a plan that was made stays, and after an error all but the count of faults is as before
pub record Answered {T : Type 0} (before after : DeviceView) (result : Result T DeviceFault) : Type 0 where
  pub faults : before.faults ≤ after.faults
  pub cause : HasCause before.faults after.faults result
  pub plan : IsSome before.plan → after.plan ≡ before.plan
  pub same : OnErr result (after ≡ record before { faults = after.faults })
