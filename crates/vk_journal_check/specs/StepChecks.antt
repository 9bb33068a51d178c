-- What steps of the Vulkan machine are: clean, or the first that is impossible or breaks a rule.
use Rattle.std.specs.Prelude.{ℕ, ◌+◌, Bool, false, ◌&&◌, ◌||◌, not, ◌==◌, List, [], ◌∷◌, slice_index_or, Option, Some, None, is_none, if◌then◌else◌}
use Rattle.vk_journal_check.specs.declared.checking.StepCheck.{StepCheck}
use Rattle.vk_journal_check.specs.declared.checking.StepCheck.TheVariants.{Clean, Broken, Impossible}
use Rattle.vk_sync_rules.specs.EnabledSteps.{is_enabled}
use Rattle.vk_sync_rules.specs.Numbers.{numbers_in}
use Rattle.vk_sync_rules.specs.Rules.{after_step, rule_of}
use Rattle.vk_sync_rules.specs.VkState.{VkState, first_state}
use Rattle.vk_sync_rules.specs.declared.ranges.VkResource.TheVariants.{Buffer}
use Rattle.vk_sync_rules.specs.declared.rules.VkRule.{VkRule}
use Rattle.vk_types.specs.declared.plan.DevicePlan.{DevicePlan}
use Rattle.vk_types.specs.declared.steps.VkStep.{VkStep}
use Rattle.vk_types.specs.declared.steps.VkStep.TheVariants.{Submit, Pass, Command, Bump, HostWrite, HostRead, Update}

-- the number that stands in a word of a buffer, where it is known; none where any may stand
abbrev pub known_word : VkState → ℕ → ℕ → Option ℕ
known_word v buffer word = slice_index_or (numbers_in v.numbers (Buffer buffer)) word None

-- a number is another one than that which is known
abbrev pub differs : Option ℕ → ℕ → Bool
differs None word = false
differs (Some number) word = not (number == word)

-- some word, from a word of a buffer on, is another number than the known one that stands there
abbrev pub some_differ : VkState → ℕ → ℕ → List ℕ → Bool
some_differ v buffer first [] = false
some_differ v buffer first (word ∷ words) = differs (known_word v buffer first) word || some_differ v buffer (first + 1) words

-- a step is a host read that tells another number than the known one
abbrev pub tells_otherwise : VkState → VkStep → Bool
tells_otherwise v (Submit b) = false
tells_otherwise v (Pass q n) = false
tells_otherwise v (Command q n k loaded) = false
tells_otherwise v (Bump q n) = false
tells_otherwise v (HostWrite buffer first words) = false
tells_otherwise v (HostRead buffer first words) = some_differ v buffer first words
tells_otherwise v (Update heap slot) = false

-- a step is impossible: it cannot be taken, or it breaks no rule and is a host read that tells another number than the last write
-- that it sees (Vulkan 1.3, 7.1)
abbrev pub is_impossible : VkState → VkStep → Bool
is_impossible v s = not (is_enabled v s) || (is_none (rule_of v s) && tells_otherwise v s)

-- what a step that is possible is, by the least rule that it breaks, if it breaks one
abbrev pub check_of_rule : ℕ → Option VkRule → StepCheck
check_of_rule n None = Clean
check_of_rule n (Some rule) = Broken rule n

-- what one step is, where it is step n
abbrev pub check_of_step : VkState → ℕ → VkStep → StepCheck
check_of_step v n s = if is_impossible v s then Impossible n else check_of_rule n (rule_of v s)

-- what is told of a step, or else of those behind it
abbrev pub first_of : StepCheck → StepCheck → StepCheck
first_of Clean rest = rest
first_of (Broken rule n) rest = Broken rule n
first_of (Impossible n) rest = Impossible n

-- what steps are, the first of which is step n
abbrev pub check_from : VkState → ℕ → List VkStep → StepCheck
check_from v n [] = Clean
check_from v n (s ∷ ss) = first_of (check_of_step v n s) (check_from (after_step v s) (n + 1) ss)

-- what the steps of a device are that was just created
abbrev pub checked : DevicePlan → List VkStep → StepCheck
checked plan ss = check_from (first_state plan) 1 ss
