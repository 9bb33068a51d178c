-- The values of timelines along a run whose submissions keep V4 and V9, where each timeline is set by one queue.
use Rattle.std.specs.Prelude.{ℕ, ◌≡◌, ◌<◌, ◌≤◌, ◌⊎◌, true, List, [], ◌∷◌, length, slice_get, Some}
use Rattle.std.specs.List.{list_all}
use Rattle.dx_base.specs.Each.{Each}
use Rattle.vk_types.specs.declared.batches.Batch.{Batch}
use Rattle.vk_types.specs.declared.steps.VkStep.{VkStep}
use Rattle.vk_types.specs.declared.steps.VkStep.TheVariants.{Submit, Pass, Command, Bump, HostWrite, HostRead, Update}
use Rattle.vk_sync_rules.specs.declared.accesses.DoneAccess.{DoneAccess}
use Rattle.vk_sync_rules.specs.declared.accesses.Maker.{Maker}
use Rattle.vk_sync_rules.specs.BatchEnds.{ArePassed}
use Rattle.vk_sync_rules.specs.EnabledSteps.{is_enabled}
use Rattle.vk_sync_rules.specs.Entries.{Enters, IsMadeBy}
use Rattle.vk_sync_rules.specs.FirstState.{IsFirst}
use Rattle.vk_sync_rules.specs.Knowledge.{Doing, IsUpToDate, Knows, Seen, seens}
use Rattle.vk_sync_rules.specs.Makers.{AreOwned}
use Rattle.vk_sync_rules.specs.Rules.{after_step, after_steps, is_new}
use Rattle.vk_sync_rules.specs.Runs.{Runs}
use Rattle.vk_sync_rules.specs.VkState.{VkState, batch_in, counter_of, counts_of}

-- what a batch sets: timelines of its queue, which are there, each to one value
pub record SetsOwn (owner : ℕ → ℕ) (count : ℕ) (b : Batch) : Type 0 where
  pub owned : (a : ℕ) (s : ℕ × ℕ) → slice_get b.sets a ≡ Some s → owner s.0 ≡ b.queue
  pub inside : (a : ℕ) (s : ℕ × ℕ) → slice_get b.sets a ≡ Some s → s.0 < count
  pub once : (a c : ℕ) (s u : ℕ × ℕ) → slice_get b.sets a ≡ Some s → slice_get b.sets c ≡ Some u → s.0 ≡ u.0 → s.1 ≡ u.1

-- a submission keeps V4 and V9, and sets timelines of its queue
pub record IsOrderly (owner : ℕ → ℕ) (v : VkState) (b : Batch) : Type 0 where
  pub queue : b.queue < length v.queues
  pub number : b.number ≡ (counts_of v b.queue).submitted
  pub new : list_all (is_new v) b.sets ≡ true
  pub own : SetsOwn owner (length v.timelines) b

abbrev pub AreOrderly : (ℕ → ℕ) → VkState → VkStep → Type 0
AreOrderly owner v (Submit b) = IsOrderly owner v b
AreOrderly owner v (Pass q n) = Unit {0}
AreOrderly owner v (Command q n k loaded) = Unit {0}
AreOrderly owner v (Bump q n) = Unit {0}
AreOrderly owner v (HostWrite buffer first words) = Unit {0}
AreOrderly owner v (HostRead buffer first words) = Unit {0}
AreOrderly owner v (Update heap slot) = Unit {0}

-- each step can be taken when its turn comes, and each submission is orderly
abbrev pub RunsOrderly : (ℕ → ℕ) → VkState → List VkStep → Type 0
RunsOrderly owner v [] = Unit {0}
RunsOrderly owner v (s ∷ ss) = (is_enabled v s ≡ true) × AreOrderly owner v s × RunsOrderly owner (after_step v s) ss

-- the batches of the journal: each is found by its number, numbers and values rise, the values of batches that have ended are
-- reached, and those of others are not
pub record AreTimed (owner : ℕ → ℕ) (v : VkState) : Type 0 where
  pub there : (k : ℕ) (b : Batch) → slice_get v.journal k ≡ Some b → batch_in b.queue b.number v.journal ≡ Some b
  pub numbers : (i k : ℕ) (e b : Batch) → i < k → slice_get v.journal i ≡ Some e → slice_get v.journal k ≡ Some b → e.queue ≡ b.queue → e.number < b.number
  pub own : (k : ℕ) (b : Batch) → slice_get v.journal k ≡ Some b → SetsOwn owner (length v.timelines) b
  pub reached : (k : ℕ) (b : Batch) (a : ℕ) (s : ℕ × ℕ) → slice_get v.journal k ≡ Some b → slice_get b.sets a ≡ Some s → b.number < (counts_of v b.queue).ended → s.1 ≤ counter_of v s.0
  pub above : (k : ℕ) (b : Batch) (a : ℕ) (s : ℕ × ℕ) → slice_get v.journal k ≡ Some b → slice_get b.sets a ≡ Some s → (counts_of v b.queue).ended ≤ b.number → counter_of v s.0 < s.1
  pub rising : (i k : ℕ) (e b : Batch) (a c : ℕ) (s u : ℕ × ℕ) → i < k → slice_get v.journal i ≡ Some e → slice_get v.journal k ≡ Some b →
      slice_get e.sets a ≡ Some s → slice_get b.sets c ≡ Some u → s.0 ≡ u.0 → s.1 < u.1

-- an orderly run is a run, and keeps this
pub record Timed (owner : ℕ → ℕ) (v : VkState) (ss : List VkStep) : Type 0 where
  pub runs : Runs v ss
  pub timed : AreTimed owner (after_steps v ss)

abbrev pub StaysTimed : Type 0
StaysTimed = (owner : ℕ → ℕ) (v : VkState) (ss : List VkStep) → ArePassed v → AreTimed owner v → RunsOrderly owner v ss → Timed owner v ss

abbrev pub FirstIsTimed : Type 0
FirstIsTimed = (owner : ℕ → ℕ) (v : VkState) → IsFirst v → AreTimed owner v

-- what the machine has done
abbrev pub doing_of : (ℕ → ℕ) → VkState → Doing
doing_of owner v = record {
  passed = λ b. b.number < (counts_of v b.queue).passed;
  ended = λ b. b.number < (counts_of v b.queue).ended;
  counter = counter_of v;
  owner = owner;
}

-- what the batches of the journal know is done: once one has passed, but for its own queue; once one has ended, all
abbrev pub KnownIsDone : Type 0
KnownIsDone = (owner : ℕ → ℕ) (v : VkState) → ArePassed v → AreTimed owner v → Each (IsUpToDate (doing_of owner v)) (seens [] v.journal)

-- a batch that has passed and knows a value is the one that sets it, or an access of that one enters it
abbrev pub IsEntered : VkState → Batch → ℕ → ℕ → DoneAccess → Seen → Type 0
IsEntered v first t value r e = e.batch.number < (counts_of v e.batch.queue).passed → Knows e.clock t value → (e.batch ≡ first) ⊎ Enters e.batch.queue e.batch.number r

-- an access of a batch of the journal that sets a timeline to a value
pub record IsOfBatch (v : VkState) (first : Batch) (t value : ℕ) (r : DoneAccess) : Type 0 where
  pub place : ℕ
  pub there : slice_get v.journal place ≡ Some first
  pub pair : ℕ
  pub sets : slice_get first.sets pair ≡ Some (t, value)
  pub some : 0 < value
  pub index : ℕ
  pub access : slice_get v.accesses index ≡ Some r
  pub maker : Maker
  pub made : IsMadeBy v maker r
  pub queue : maker.queue ≡ first.queue
  pub number : maker.place.number ≡ first.number

abbrev pub KnownEnter : Type 0
KnownEnter = (owner : ℕ → ℕ) (v : VkState) (first : Batch) (t value : ℕ) (r : DoneAccess) → ArePassed v → AreTimed owner v → AreOwned v → IsOfBatch v first t value r → Each (IsEntered v first t value r) (seens [] v.journal)

-- an access of a batch enters each batch that has passed and waited for a value that its own sets, or a higher one: so the layout
-- changes of a start-up batch enter all that wait for it
abbrev pub WaitersEntered : VkState → ℕ → ℕ → DoneAccess → Type 0
WaitersEntered v t value r =
    (k : ℕ) (b : Batch) (i : ℕ) (w : ℕ × ℕ) → slice_get v.journal k ≡ Some b → b.number < (counts_of v b.queue).passed → slice_get b.waits i ≡ Some w → w.0 ≡ t → value ≤ w.1 → Enters b.queue b.number r

abbrev pub WaitersEnter : Type 0
WaitersEnter = (owner : ℕ → ℕ) (v : VkState) (first : Batch) (t value : ℕ) (r : DoneAccess) → ArePassed v → AreTimed owner v → AreOwned v → IsOfBatch v first t value r → WaitersEntered v t value r
