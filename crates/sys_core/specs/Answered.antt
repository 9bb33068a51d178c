-- Why a step was refused, and what it keeps of the device.
use Rattle.std.specs.Prelude.{ℕ, ⊤, ◌≡◌, ◌≤◌, IsSome, Result, Ok, Err, OnErr}
use Rattle.dx_base.specs.Faults.{HasRisen}
use Rattle.vk_port.specs.DeviceView.{DeviceView}
use Rattle.sys_core.specs.declared.faults.SysFault.{SysFault}
use Rattle.sys_core.specs.declared.faults.SysFault.TheVariants.{Memory, Lost}

abbrev pub HasFaultCause : SysFault → ℕ → ℕ → Type 0
HasFaultCause Lost before now = HasRisen before now
HasFaultCause Memory before now = ⊤

-- an answer is Lost only where the device's count of faults rose
abbrev pub HasCause : {T : Type 0} → ℕ → ℕ → Result T SysFault → Type 0
HasCause before now (Ok answer) = ⊤
HasCause before now (Err fault) = HasFaultCause fault before now

-- what is kept of the device by a step that may be refused: its faults never fall, and it is lost only where they rose; its
-- plan stays, and after an error all but the count of faults is as before
pub record HasAnswered {T : Type 0} (before after : DeviceView) (result : Result T SysFault) : Type 0 where
  pub faults : before.faults ≤ after.faults
  pub cause : HasCause before.faults after.faults result
  pub plan : IsSome before.plan → after.plan ≡ before.plan
  pub same : OnErr result (after ≡ record before { faults = after.faults })
