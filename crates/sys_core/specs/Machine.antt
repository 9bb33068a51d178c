-- The Vulkan machine of a device that has a world's objects.
use Rattle.std.specs.Prelude.{ℕ, ◌≡◌, ◌<◌, ◌^◌, map, length, Some}
use Rattle.d3d_machine.specs.declared.world.World.{World}
use Rattle.d3d_machine.specs.declared.world.Resource.{Resource}
use Rattle.d3d_machine.specs.World.{resource_of, words_of_resource}
use Rattle.vk_types.specs.declared.plan.PlanBuffer.{PlanBuffer}
use Rattle.vk_sync_rules.specs.declared.ranges.VkResource.TheVariants.{Buffer}
use Rattle.vk_sync_rules.specs.FirstState.{Begins}
use Rattle.vk_sync_rules.specs.Numbers.{numbers_in}
use Rattle.vk_sync_rules.specs.VkState.{VkState as Machine}
use Rattle.vk_port.specs.Machine.{IsCounted}
use Rattle.sys_core.specs.Lowering.{plan_buffers, plan_number, plan_of_world}

-- the words that a buffer of a plan has
abbrev pub words_count : PlanBuffer → ℕ
words_count buffer = buffer.words

-- the machine has the plan of the world, and a number for each word of its buffers; it is what a run of it can be, and its
-- batches are counted
pub record IsMachine (w : World) (m : Machine) : Type 0 where
  pub plan : m.plan ≡ plan_of_world w
  pub sizes : map length m.numbers.buffers ≡ map words_count (plan_buffers w.resources)
  pub begins : Begins m
  pub counted : IsCounted m

-- the machine has each live buffer at its number, with a number for each of its words, and no other
pub record HasBuffers (w : World) (m : Machine) : Type 0 where
  pub count : length m.numbers.buffers ≡ length (plan_buffers w.resources)
  pub has : (b : ℕ) (r : Resource) → resource_of w b ≡ Some r → plan_number w b < length m.numbers.buffers
  pub long : (b : ℕ) (r : Resource) → resource_of w b ≡ Some r → length (numbers_in m.numbers (Buffer (plan_number w b))) ≡ words_of_resource r
  pub small : (b : ℕ) (r : Resource) → resource_of w b ≡ Some r → words_of_resource r < 2 ^ 32
