-- A state before anything was submitted.
use Rattle.std.specs.Prelude.{ℕ, ◌≡◌, []}
use Rattle.vk_types.specs.declared.plan.DevicePlan.{DevicePlan}
use Rattle.vk_sync_rules.specs.Barriers.{AreBehind}
use Rattle.vk_sync_rules.specs.BatchEnds.{ArePassed, AreEnded}
use Rattle.vk_sync_rules.specs.Makers.{AreOwned}
use Rattle.vk_sync_rules.specs.Soundness.{IsSound}
use Rattle.vk_sync_rules.specs.VkState.{VkState, counts_of, first_state}

-- nothing is submitted, done or accessed
pub record IsFirst (v : VkState) : Type 0 where
  pub journal : v.journal ≡ []
  pub done : v.done ≡ []
  pub accesses : v.accesses ≡ []
  pub counted : (q : ℕ) → ((counts_of v q).ended ≡ (counts_of v q).submitted) × ((counts_of v q).passed ≡ (counts_of v q).submitted)

-- what every state of a run keeps
pub record Begins (v : VkState) : Type 0 where
  pub sound : IsSound v
  pub behind : AreBehind v
  pub passed : ArePassed v
  pub ended : AreEnded v
  pub owned : AreOwned v

abbrev pub FirstBegins : Type 0
FirstBegins = (v : VkState) → IsFirst v → Begins v

-- the state of a device that was just created is such a one
abbrev pub DevicesBegin : Type 0
DevicesBegin = (plan : DevicePlan) → IsFirst (first_state plan)
