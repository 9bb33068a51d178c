-- Worked rows of what copies and the host read.
use Rattle.std.specs.Prelude.{ℕ, ◌≡◌, List, [], ◌∷◌, ◌++◌, Option, Some, None}
use Rattle.vk_types.specs.declared.commands.VkCommand.{VkCommand}
use Rattle.vk_types.specs.declared.commands.VkCommand.TheVariants.{Copy}
use Rattle.vk_types.specs.declared.steps.VkStep.{VkStep}
use Rattle.vk_types.specs.declared.steps.VkStep.TheVariants.{Submit, Pass, Command, Bump}
use Rattle.vk_sync_rules.specs.Examples.{at_first, batch, buffers, copy, leading, run, runs, trailing, wrote}
use Rattle.vk_sync_rules.specs.Machines.{known_numbers}
use Rattle.vk_sync_rules.specs.Rules.{after_steps}
use Rattle.vk_port.specs.Agreement.{host_numbers}
use Rattle.vk_port.specs.Settled.{HasFinished, IsSettled}

-- what the host reads in the four words of a buffer, behind steps
abbrev pub answer : ℕ → List VkStep → List (Option ℕ)
answer buffer ss = host_numbers (after_steps at_first ss) buffer 0 4

-- what the host wrote, and any numbers
abbrev pub written : List (Option ℕ)
written = known_numbers (5 ∷ 6 ∷ 7 ∷ 8 ∷ [])

abbrev pub any_numbers : List (Option ℕ)
any_numbers = None ∷ None ∷ None ∷ None ∷ []

-- the host writes, and a batch copies all that between the two barriers
abbrev pub copied : List VkStep
copied = wrote ∷ runs (leading ∷ copy ∷ trailing ∷ [])

-- its end, and then one more batch of the queue
abbrev pub ended : List VkStep
ended = copied ++ Bump 0 0 ∷ []

abbrev pub then_second : List VkCommand → List VkStep
then_second cs = copied ++ Submit (batch 0 1 [] cs ((0, 2) ∷ [])) ∷ Pass 0 1 ∷ Command 0 1 1 [] ∷ []

-- a copy of two words back
abbrev pub copy_back : VkCommand
copy_back = Copy 0 0 1 2 2

pub record ReadRows : Type 0 where
  -- the host sees what it wrote
  pub own : answer 0 (wrote ∷ []) ≡ written
  -- it sees a copy behind the end of a batch with a barrier to the host
  pub at_end : answer 1 ended ≡ written
  pub before_end : answer 1 copied ≡ any_numbers
  pub no_barrier : answer 1 (wrote ∷ runs (leading ∷ copy ∷ []) ++ Bump 0 0 ∷ []) ≡ any_numbers
  -- and what stands in words that were not written
  pub beside : answer 1 (runs (Copy 1 0 0 0 2 ∷ [])) ≡ None ∷ None ∷ Some 0 ∷ Some 0 ∷ []
  -- a copy of a later batch sees what an earlier one wrote behind a full barrier
  pub led : buffers (then_second (leading ∷ copy_back ∷ []) ++ Command 0 1 2 [] ∷ []) ≡ known_numbers (7 ∷ 8 ∷ 7 ∷ 8 ∷ []) ∷ written ∷ []
  pub not_led : buffers (then_second (copy_back ∷ [])) ≡ (None ∷ None ∷ Some 7 ∷ Some 8 ∷ []) ∷ written ∷ []
  -- it does not see what the host wrote behind the submission
  pub too_late : buffers (Submit (batch 0 0 [] (leading ∷ copy ∷ []) ((0, 1) ∷ [])) ∷ wrote ∷ Pass 0 0 ∷ run 1 ∷ run 2 ∷ []) ≡ written ∷ any_numbers ∷ []
  -- the queue is settled, and its batch has ended
  pub settled : IsSettled (after_steps at_first ended) 0
  pub finished : HasFinished (after_steps at_first ended) 0
