-- The order of a queue's done commands.
use Rattle.std.specs.Prelude.{ℕ, ◌≡◌, ◌<◌, true, List, Some}
use Rattle.vk_types.specs.declared.commands.VkCommand.{VkCommand}
use Rattle.vk_types.specs.declared.steps.VkStep.{VkStep}
use Rattle.vk_sync_rules.specs.declared.places.Place.{Place}
use Rattle.vk_sync_rules.specs.Orders.{sort_of, orders}
use Rattle.vk_sync_rules.specs.Places.{is_before}
use Rattle.vk_sync_rules.specs.Rules.{after_steps}
use Rattle.vk_sync_rules.specs.Runs.{Runs}
use Rattle.vk_sync_rules.specs.VkState.{VkState, counts_of, command_at, is_done}

-- done commands are submitted and passed, and whatever has to be done before a done command is done (Vulkan 1.3, 7.1)
pub record IsSound (v : VkState) : Type 0 where
  pub there : (q : ℕ) (p : Place) → is_done v.done q p ≡ true → (c : VkCommand) × (command_at v q p ≡ Some c)
  pub submitted : (q : ℕ) (p : Place) (c : VkCommand) → command_at v q p ≡ Some c → p.number < (counts_of v q).submitted
  pub passed : (q : ℕ) (p : Place) → is_done v.done q p ≡ true → p.number < (counts_of v q).passed
  pub order : (q : ℕ) (e l : Place) (c d : VkCommand) → command_at v q e ≡ Some c → command_at v q l ≡ Some d →
      is_before e l ≡ true → orders (sort_of c) (sort_of d) ≡ true → is_done v.done q l ≡ true → is_done v.done q e ≡ true

abbrev pub StaysSound : Type 0
StaysSound = (v : VkState) (ss : List VkStep) → IsSound v → Runs v ss → IsSound (after_steps v ss)
