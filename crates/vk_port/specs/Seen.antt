-- What the Vulkan machine has seen of a device.
use Rattle.std.specs.Prelude.{[], Option, Some, None}
use Rattle.vk_port.specs.declared.kept.Note.{Note}
use Rattle.vk_port.specs.declared.kept.Note.TheVariants.{Create, Submit, Step, HostWrite, HostRead}
use Rattle.vk_types.specs.declared.plan.DevicePlan.{DevicePlan}
use Rattle.vk_sync_rules.specs.Rules.{after_step}
use Rattle.vk_sync_rules.specs.VkState.{VkState as Machine, first_state}
use Rattle.vk_types.specs.declared.steps.VkStep.TheVariants as vk
use Rattle.vk_port.specs.Machine.{after_stepped}

-- the plan of a device, if it has one, and the state of its Vulkan machine
pub record Seen : Type 0 where
  pub plan : Option DevicePlan
  pub state : Machine

-- a plan with no objects
abbrev pub no_plan : DevicePlan
no_plan = record { buffers = []; images = []; heaps = []; views = []; queues = 0; timelines = 0 }

-- a machine with no objects
abbrev pub no_machine : Machine
no_machine = first_state no_plan

-- a new device
abbrev pub nothing_seen : Seen
nothing_seen = record { plan = None; state = no_machine }

-- what was seen after one more thing was done
abbrev pub after_note : Seen → Note → Seen
after_note seen (Create plan) = record { plan = Some plan.now; state = first_state plan.now }
after_note seen (Submit b) = record seen { state = after_step seen.state (vk.Submit b.now) }
after_note seen (Step step loaded) = record seen { state = after_stepped seen.state step loaded.now }
after_note seen (HostWrite buffer first words) = record seen { state = after_step seen.state (vk.HostWrite buffer first words.now) }
after_note seen (HostRead buffer first words) = record seen { state = after_step seen.state (vk.HostRead buffer first words.now) }
