-- The commands that work at, or wait for, a stage of the device: every stage but the host's.
use Rattle.std.specs.Prelude.{◌==◌, Bool, not, List, bit_and}
use Rattle.std.specs.List.{list_all}
use Rattle.vk_types.specs.declared.commands.VkCommand.{VkCommand}
use Rattle.vk_types.specs.Stages.{whole}
use Rattle.vk_port.specs.declared.ahead.Ahead.{Ahead}
use Rattle.vk_port.specs.declared.lanes.Lane.{Lane}
use Rattle.vk_port.specs.declared.lanes.Running.{Running}
use Rattle.vk_port.specs.Orders.{stages_of}

-- a command waits for a stage of the device
abbrev pub is_of_device : VkCommand → Bool
is_of_device command = not (bit_and (whole (stages_of command)) 7 == 0)

-- so does each of a batch
abbrev pub batch_of_device : Running → Bool
batch_of_device running = list_all is_of_device running.batch.commands

-- so does each of a lane
abbrev pub lane_of_device : Lane → Bool
lane_of_device lane = list_all batch_of_device lane.batches

-- so does each of all lanes
abbrev pub lanes_of_device : List Lane → Bool
lanes_of_device lanes = list_all lane_of_device lanes

-- commands hold back each stage of the device: a barrier with all of them behind it is among them
abbrev pub is_closed : Ahead → Bool
is_closed ahead = bit_and ahead.to 7 == 7
