-- A device's fault as the system's.
use Rattle.vk_port.specs.declared.faults.DeviceFault.{DeviceFault}
use Rattle.vk_port.specs.declared.faults.DeviceFault.TheVariants as device
use Rattle.sys_core.specs.declared.faults.SysFault.{SysFault}
use Rattle.sys_core.specs.declared.faults.SysFault.TheVariants as sys

-- a device that is lost loses the system
abbrev pub fault_of : DeviceFault → SysFault
fault_of device.Lost = sys.Lost
fault_of device.Memory = sys.Memory
