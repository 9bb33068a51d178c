-- What a device offers.
use Rattle.std.specs.Prelude.{ℕ, ◌+◌, ◌≤◌, ◌<◌, length}
use Rattle.vk_port.specs.declared.steps.Stepped.{Stepped}
use Rattle.vk_port.specs.declared.steps.Stepped.TheVariants.{Passed, Ran, Bumped, Free}
use Rattle.vk_sync_rules.specs.declared.ranges.VkResource.TheVariants.{Buffer}
use Rattle.vk_sync_rules.specs.Numbers.{numbers_in}
use Rattle.vk_sync_rules.specs.VkState.{VkState as Machine}
use Rattle.vk_port.specs.VkState.{VkState}
use Rattle.vk_port.specs.Enabled.{enabled_steps}

-- how many steps are offered: those of the Vulkan machine, then the free ones
abbrev pub steps_offered : VkState → ℕ → ℕ
steps_offered v free = length (enabled_steps v) + free

-- how many free steps a step takes
abbrev pub rest_taken : Stepped → ℕ
rest_taken (Passed q n) = 0
rest_taken (Ran q n k) = 0
rest_taken (Bumped q n) = 0
rest_taken Free = 1

-- a range of words lies inside a buffer
pub record IsInside (v : Machine) (buffer first count : ℕ) : Type 0 where
  pub buffer_is : buffer < length v.numbers.buffers
  pub range_is : first + count ≤ length (numbers_in v.numbers (Buffer buffer))
