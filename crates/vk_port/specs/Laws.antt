-- Laws of the Vulkan machine.
use Rattle.std.specs.Prelude.{ℕ, ◌≡◌, ◌+◌, ◌<◌, true, List, [], length, slice_get, Some}
use Rattle.vk_types.specs.declared.batches.Batch.{Batch}
use Rattle.vk_types.specs.declared.plan.DevicePlan.{DevicePlan}
use Rattle.vk_types.specs.declared.steps.VkStep.{VkStep}
use Rattle.vk_types.specs.declared.steps.VkStep.TheVariants as vk
use Rattle.vk_sync_rules.specs.BatchEnds.{AreEnded}
use Rattle.vk_sync_rules.specs.EnabledSteps.{is_enabled}
use Rattle.vk_sync_rules.specs.Rules.{after_step as after_vk_step}
use Rattle.vk_sync_rules.specs.VkState.{VkState as Machine, first_state as first_machine}
use Rattle.vk_port.specs.declared.steps.Stepped.{Stepped}
use Rattle.vk_port.specs.After.{after_step, after_submit}
use Rattle.vk_port.specs.Enabled.{enabled_steps}
use Rattle.vk_port.specs.Journal.{next_number, fits_plan}
use Rattle.vk_port.specs.Left.{steps_left}
use Rattle.vk_port.specs.Machine.{IsCounted, shown, vk_step, after_stepped}
use Rattle.vk_port.specs.Meaning.{IsEnabled}
use Rattle.vk_port.specs.Valid.{IsValid, Matches}
use Rattle.vk_port.specs.VkState.{VkState, first_state}

-- each step that can be taken means what it says
abbrev pub EachMeans : Type 0
EachMeans = (v : VkState) (k : ℕ) (s : Stepped) → slice_get (enabled_steps v) k ≡ Some s → IsEnabled v s

-- each step that can be taken by its meaning has a place among those that are offered
abbrev pub EachIsOffered : Type 0
EachIsOffered = (v : VkState) (s : Stepped) → IsEnabled v s → (k : ℕ) × (slice_get (enabled_steps v) k ≡ Some s)

-- each step that is taken leaves one step fewer
abbrev pub EachFalls : Type 0
EachFalls = (v : VkState) → IsValid v → (k : ℕ) (s : Stepped) → slice_get (enabled_steps v) k ≡ Some s → steps_left (after_step v s) + 1 ≡ steps_left v

-- a batch that is submitted adds its steps
abbrev pub SubmissionsAdd : Type 0
SubmissionsAdd =
    (v : VkState) (b : Batch) → IsValid v → b.queue < length v.lanes → steps_left (after_submit v b) ≡ steps_left v + (2 + length b.commands)

-- states are valid from the first one on
pub record StaysValid : Type 0 where
  pub at_first : (plan : DevicePlan) → IsValid (first_state plan)
  pub steps : (v : VkState) (s : Stepped) → IsEnabled v s → IsValid v → IsValid (after_step v s)
  pub submissions : (v : VkState) (b : Batch) → b.queue < length v.lanes → b.number ≡ next_number b.queue v.journal → IsValid v → IsValid (after_submit v b)

-- states have the objects of their plan from the first one on
pub record StaysMatched : Type 0 where
  pub at_first : (plan : DevicePlan) → Matches plan (first_state plan)
  pub steps : (plan : DevicePlan) (v : VkState) (s : Stepped) → Matches plan v → Matches plan (after_step v s)
  pub submissions : (plan : DevicePlan) (v : VkState) (b : Batch) → Matches plan v → Matches plan (after_submit v b)

-- the view of the machine's state goes on as the machine does, and the machine's batches stay counted
pub record StaysShown : Type 0 where
  pub at_first : (plan : DevicePlan) → (shown (first_machine plan) ≡ first_state plan) × IsCounted (first_machine plan)
  pub steps : (v : Machine) (s : Stepped) → IsCounted v → IsEnabled (shown v) s → (shown (after_stepped v s []) ≡ after_step (shown v) s) × IsCounted (after_stepped v s [])
  pub submissions : (v : Machine) (b : Batch) → IsCounted v → b.queue < length v.queues → b.number ≡ next_number b.queue v.journal → fits_plan v.plan b ≡ true →
      (shown (after_vk_step v (vk.Submit b)) ≡ after_submit (shown v) b) × IsCounted (after_vk_step v (vk.Submit b))
  pub host_writes : (v : Machine) (buffer first : ℕ) (words : List ℕ) →
      (shown (after_vk_step v (vk.HostWrite buffer first words)) ≡ shown v) × (IsCounted v → IsCounted (after_vk_step v (vk.HostWrite buffer first words)))
  pub host_reads : (v : Machine) (buffer first : ℕ) (words : List ℕ) →
      (shown (after_vk_step v (vk.HostRead buffer first words)) ≡ shown v) × (IsCounted v → IsCounted (after_vk_step v (vk.HostRead buffer first words)))

-- the steps that are offered are those of the machine, where the commands of batches that have ended are done
pub record OffersWhatIsEnabled : Type 0 where
  pub offered : (v : Machine) (k : ℕ) (s : Stepped) → IsCounted v → AreEnded v → slice_get (enabled_steps (shown v)) k ≡ Some s →
      (x : VkStep) × (vk_step s [] ≡ Some x) × (is_enabled v x ≡ true)
  pub enabled : (v : Machine) (s : Stepped) (x : VkStep) → IsCounted v → vk_step s [] ≡ Some x → is_enabled v x ≡ true →
      (k : ℕ) × (slice_get (enabled_steps (shown v)) k ≡ Some s)
