-- A plain device, as the contract of a device sees it.
use Rattle.vk_port.specs.declared.plain.PlainDevice.{PlainDevice}
use Rattle.vk_port.specs.DeviceView.{DeviceView}

-- it takes and offers no free steps, and its faults are the calls that were lost
abbrev pub view_of : PlainDevice → DeviceView
view_of device = record {
  plan = device.kept.seen.plan;
  state = device.kept.seen.state;
  rest = 0;
  offered = 0;
  faults = device.calls.faults;
}
