-- The words that a plain device stores.
use Rattle.std.specs.Prelude.{ℕ, List, replicate}
use Rattle.vk_types.specs.declared.plan.PlanBuffer.{PlanBuffer}
use Rattle.vk_port.specs.declared.steps.Stepped.{Stepped}
use Rattle.vk_port.specs.declared.steps.Stepped.TheVariants.{Passed, Ran, Bumped, Free}
use Rattle.vk_port.specs.After.{after_found, command_at}
use Rattle.vk_port.specs.VkState.{VkState, lane_of}

-- the words of a buffer of a plan at first
abbrev pub first_words : PlanBuffer → List ℕ
first_words buffer = replicate buffer.words 0

-- the words of all buffers after a step: a command does its accesses at once
abbrev pub words_after : VkState → Stepped → List (List ℕ) → List (List ℕ)
words_after v (Passed q n) words = words
words_after v (Ran q n k) words = after_found (command_at n k (lane_of v q).batches) words
words_after v (Bumped q n) words = words
words_after v Free words = words
