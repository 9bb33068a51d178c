-- The first fault among the steps of a device.
use Rattle.std.specs.Prelude.{ℕ, suc, ◌≡◌, ◌<◌, ◌↔◌, Bool, true, false, ◌||◌, List, take, slice_get, Option, Some, is_some}
use Rattle.vk_journal_check.specs.declared.checking.StepCheck.TheVariants.{Clean, Broken, Impossible}
use Rattle.vk_journal_check.specs.StepChecks.{checked, is_impossible}
use Rattle.vk_sync_rules.specs.Rules.{after_steps, rule_of}
use Rattle.vk_sync_rules.specs.VkState.{VkState, first_state}
use Rattle.vk_sync_rules.specs.declared.rules.VkRule.{VkRule}
use Rattle.vk_types.specs.declared.plan.DevicePlan.{DevicePlan}
use Rattle.vk_types.specs.declared.steps.VkStep.{VkStep}

-- the state in which a step is taken, before which so many are
abbrev pub state_before : VkState → List VkStep → ℕ → VkState
state_before v ss i = after_steps v (take i ss)

-- a step is impossible or breaks a rule
abbrev pub is_faulty : VkState → VkStep → Bool
is_faulty v s = is_impossible v s || is_some (rule_of v s)

-- a step is faulty, and none before it is; so many are before it
pub record IsFirstFault (v : VkState) (ss : List VkStep) (i : ℕ) (s : VkStep) : Type 0 where
  pub there : slice_get ss i ≡ Some s
  pub faulty : is_faulty (state_before v ss i) s ≡ true
  pub earlier : (j : ℕ) (u : VkStep) → j < i → slice_get ss j ≡ Some u → is_faulty (state_before v ss j) u ≡ false

-- the first fault is an impossible step
pub record IsImpossibleAt (v : VkState) (ss : List VkStep) (i : ℕ) : Type 0 where
  pub step : VkStep
  pub first : IsFirstFault v ss i step
  pub impossible : is_impossible (state_before v ss i) step ≡ true

-- the first fault is a possible step, and this is the least rule that it breaks
pub record IsBrokenAt (v : VkState) (ss : List VkStep) (i : ℕ) (rule : VkRule) : Type 0 where
  pub step : VkStep
  pub first : IsFirstFault v ss i step
  pub possible : is_impossible (state_before v ss i) step ≡ false
  pub breaks : rule_of (state_before v ss i) step ≡ Some rule

-- steps are clean where none is faulty
abbrev pub AreFaultless : VkState → List VkStep → Type 0
AreFaultless v ss = (i : ℕ) (s : VkStep) → slice_get ss i ≡ Some s → is_faulty (state_before v ss i) s ≡ false

-- what is told of steps is their first fault, by its number counted from 1, and clean where there is none
pub record TellsFirstFaults : Type 0 where
  pub clean : (plan : DevicePlan) (ss : List VkStep) → (checked plan ss ≡ Clean) ↔ AreFaultless (first_state plan) ss
  pub broken : (plan : DevicePlan) (ss : List VkStep) (rule : VkRule) (i : ℕ) → (checked plan ss ≡ Broken rule (suc i)) ↔ IsBrokenAt (first_state plan) ss i rule
  pub impossible : (plan : DevicePlan) (ss : List VkStep) (i : ℕ) → (checked plan ss ≡ Impossible (suc i)) ↔ IsImpossibleAt (first_state plan) ss i
