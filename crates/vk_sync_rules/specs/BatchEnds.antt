-- What a batch's pass and its end mean, in every later state (Vulkan 1.3, 7.4: semaphores).
use Rattle.std.specs.Prelude.{ℕ, ◌≡◌, ◌<◌, ◌≤◌, true, List, Some}
use Rattle.dx_base.specs.Each.{Each}
use Rattle.vk_types.specs.declared.accesses.Accesses.{Accesses}
use Rattle.vk_types.specs.declared.batches.Batch.{Batch}
use Rattle.vk_types.specs.declared.stages.Stages.{Stages}
use Rattle.vk_types.specs.declared.steps.VkStep.{VkStep}
use Rattle.vk_types.specs.Stages.{meets}
use Rattle.vk_sync_rules.specs.declared.accesses.DoneAccess.{DoneAccess}
use Rattle.vk_sync_rules.specs.AccessSets.{share, all_stages, all_accesses}
use Rattle.vk_sync_rules.specs.DoneAccesses.{ordered, sees, is_covered, is_ended, start_of}
use Rattle.vk_sync_rules.specs.EnabledSteps.{reached, all_done}
use Rattle.vk_sync_rules.specs.Rules.{after_steps}
use Rattle.vk_sync_rules.specs.Runs.{Runs}
use Rattle.vk_sync_rules.specs.VkState.{VkState, counts_of, batch_in, placed_from}

-- an access at the end of batch n of a queue: where it is made on the queue up to there, or reaches it, each pair that the
-- batch sets signals it, and a write is available
pub record IsEnded (q n : ℕ) (sets : List (ℕ × ℕ)) (r : DoneAccess) : Type 0 where
  pub signal : (waits : List (ℕ × ℕ)) → is_ended q n r ≡ true → is_covered waits sets ≡ true → is_covered waits r.signals ≡ true
  pub available : is_ended q n r ≡ true → r.writes ≡ true → r.available ≡ true

-- an access that the waits of batch n of a queue cover: it is ordered before the batch, and a write is seen there
pub record IsReached (q n : ℕ) (waits : List (ℕ × ℕ)) (r : DoneAccess) : Type 0 where
  pub order : (stages : Stages) → is_covered waits r.signals ≡ true → meets all_stages stages ≡ true → ordered q stages (start_of n) r ≡ true
  pub sight : (stages : Stages) (accesses : Accesses) → is_covered waits r.signals ≡ true → r.writes ≡ true → meets all_stages stages ≡ true → share all_accesses accesses ≡ true →
      sees q stages accesses (start_of n) r ≡ true

-- a write that is signalled is available
pub record IsSignalled (r : DoneAccess) : Type 0 where
  pub available : (waits : List (ℕ × ℕ)) → is_covered waits r.signals ≡ true → r.writes ≡ true → r.available ≡ true

-- what holds of batches that have passed and ended
pub record ArePassed (v : VkState) : Type 0 where
  pub ended_passed : (q : ℕ) → (counts_of v q).ended ≤ (counts_of v q).passed
  pub passed_submitted : (q : ℕ) → (counts_of v q).passed ≤ (counts_of v q).submitted
  pub numbered : (q n : ℕ) (b : Batch) → batch_in q n v.journal ≡ Some b → n < (counts_of v q).submitted
  pub known : Each IsSignalled v.accesses
  pub waited : (q n : ℕ) (b : Batch) → batch_in q n v.journal ≡ Some b → n < (counts_of v q).passed → reached v.timelines b.waits ≡ true
  pub ended : (q n : ℕ) (b : Batch) → batch_in q n v.journal ≡ Some b → n < (counts_of v q).ended → Each (IsEnded q n b.sets) v.accesses
  pub reach : (q n : ℕ) (b : Batch) → batch_in q n v.journal ≡ Some b → n < (counts_of v q).passed → Each (IsReached q n b.waits) v.accesses

abbrev pub StaysPassed : Type 0
StaysPassed = (v : VkState) (ss : List VkStep) → ArePassed v → Runs v ss → ArePassed (after_steps v ss)

-- the commands of a batch that has ended are done
pub record AreEnded (v : VkState) : Type 0 where
  pub done : (q n : ℕ) (b : Batch) → batch_in q n v.journal ≡ Some b → n < (counts_of v q).ended → all_done v.done q (placed_from n 1 b.commands) ≡ true

abbrev pub StaysEnded : Type 0
StaysEnded = (v : VkState) (ss : List VkStep) → ArePassed v → AreEnded v → Runs v ss → AreEnded (after_steps v ss)
