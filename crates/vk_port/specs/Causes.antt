-- Why a device answers that it is lost.
use Rattle.std.specs.Prelude.{ℕ, ⊤, Result, Ok, Err}
use Rattle.dx_base.specs.Faults.{HasRisen}
use Rattle.vk_port.specs.declared.faults.DeviceFault.{DeviceFault}
use Rattle.vk_port.specs.declared.faults.DeviceFault.TheVariants.{Lost, Memory}

-- a fault is the loss of the device only where the count of its faults rose
abbrev pub HasFaultCause : DeviceFault → ℕ → ℕ → Type 0
HasFaultCause Lost before now = HasRisen before now
HasFaultCause Memory before now = ⊤

-- an answer is Lost only where the count of faults rose
abbrev pub HasCause : {T : Type 0} → ℕ → ℕ → Result T DeviceFault → Type 0
HasCause before now (Ok answer) = ⊤
HasCause before now (Err fault) = HasFaultCause fault before now
