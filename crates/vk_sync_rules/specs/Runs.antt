-- Runs of the Vulkan machine.
use Rattle.std.specs.Prelude.{ℕ, ◌≡◌, ◌<◌, nat_lt, slice_index_or, Bool, true, List, [], ◌∷◌, length}
use Rattle.std.specs.List.{list_all}
use Rattle.vk_types.specs.declared.steps.VkStep.{VkStep}
use Rattle.vk_types.specs.declared.steps.VkStep.TheVariants.{Submit, Pass, Command, Bump, HostWrite, HostRead, Update}
use Rattle.vk_sync_rules.specs.EnabledSteps.{is_enabled}
use Rattle.vk_sync_rules.specs.NextState.{sets_in}
use Rattle.vk_sync_rules.specs.Rules.{after_step}
use Rattle.vk_sync_rules.specs.VkState.{VkState, counts_of, batch_in}

-- each value is above its timeline's
abbrev pub are_new : List ℕ → List (ℕ × ℕ) → Bool
are_new timelines sets = list_all (λ (s : ℕ × ℕ). nat_lt (slice_index_or timelines s.0 0) s.1) sets

-- a submission has the next number of a queue that is there, and an end sets new values; any other step is fit. A run may
-- break rules, but for these parts of V9 and V4
abbrev pub Fits : VkState → VkStep → Type 0
Fits v (Submit b) = (b.queue < length v.queues) × (b.number ≡ (counts_of v b.queue).submitted)
Fits v (Pass q n) = Unit {0}
Fits v (Command q n k loaded) = Unit {0}
Fits v (Bump q n) = are_new v.timelines (sets_in (batch_in q n v.journal)) ≡ true
Fits v (HostWrite buffer first words) = Unit {0}
Fits v (HostRead buffer first words) = Unit {0}
Fits v (Update heap slot) = Unit {0}

-- each step can be taken when its turn comes, and is fit
abbrev pub Runs : VkState → List VkStep → Type 0
Runs v [] = Unit {0}
Runs v (s ∷ ss) = (is_enabled v s ≡ true) × Fits v s × Runs (after_step v s) ss
