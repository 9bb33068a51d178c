-- What copies and the host read, where they see what was written (Vulkan 1.3, 7.1: memory dependencies).
use Rattle.std.specs.Prelude.{ℕ, ◌≡◌, ◌<◌, ◌+◌, ◌≤◌, true, false, List, [], length, map, take, drop, slice_get, slice_index_or, Option, Some, None, is_some, bit_or}
use Rattle.std.specs.List.{list_all}
use Rattle.dx_base.specs.Each.{Each}
use Rattle.dx_base.specs.Lists.{changed_at, put, range_of}
use Rattle.vk_types.specs.declared.accesses.Access.TheVariants.{MemoryRead, MemoryWrite, HostRead as ReadOfHost}
use Rattle.vk_types.specs.declared.accesses.Accesses.{Accesses}
use Rattle.vk_types.specs.declared.batches.Batch.{Batch}
use Rattle.vk_types.specs.declared.commands.VkCommand.{VkCommand}
use Rattle.vk_types.specs.declared.commands.VkCommand.TheVariants.{Barrier, Copy}
use Rattle.vk_types.specs.declared.plan.DevicePlan.{DevicePlan}
use Rattle.vk_types.specs.declared.stages.Stage.TheVariants.{AllCommands, Host}
use Rattle.vk_types.specs.declared.stages.Stages.{Stages}
use Rattle.vk_types.specs.declared.steps.VkStep.{VkStep}
use Rattle.vk_types.specs.declared.steps.VkStep.TheVariants.{Submit, Pass, Command, Bump, HostWrite, HostRead, Update}
use Rattle.vk_types.specs.Accesses.{access_bit}
use Rattle.vk_types.specs.Stages.{meets, only_stage}
use Rattle.vk_sync_rules.specs.declared.accesses.DoneAccess.{DoneAccess}
use Rattle.vk_sync_rules.specs.declared.ranges.VkResource.TheVariants.{Buffer}
use Rattle.vk_sync_rules.specs.declared.ranges.WordRange.{WordRange}
use Rattle.vk_sync_rules.specs.AccessSets.{all_accesses, all_stages, share}
use Rattle.vk_sync_rules.specs.Barriers.{to_all, to_host}
use Rattle.vk_sync_rules.specs.Commands.{passes_end}
use Rattle.vk_sync_rules.specs.EnabledSteps.{is_enabled}
use Rattle.vk_sync_rules.specs.Entries.{Enters, leading_of}
use Rattle.vk_sync_rules.specs.FirstState.{Begins}
use Rattle.vk_sync_rules.specs.Machines.{known_numbers}
use Rattle.vk_sync_rules.specs.NextState.{host_passes_end, numbers_read}
use Rattle.vk_sync_rules.specs.Numbers.{numbers_in}
use Rattle.vk_sync_rules.specs.Orders.{sort_of}
use Rattle.vk_sync_rules.specs.Rules.{after_step, after_steps, is_host_seen}
use Rattle.vk_sync_rules.specs.Runs.{Runs}
use Rattle.vk_sync_rules.specs.Sizes.{words_in}
use Rattle.vk_sync_rules.specs.VkState.{VkState as Machine, command_at}
use Rattle.vk_port.specs.Agreement.{Agree, AgreeEach, host_numbers, sees_word}

-- the number in each word of each buffer is known: they are these words
abbrev pub AreKnown : Machine → List (List ℕ) → Type 0
AreKnown v words = v.numbers.buffers ≡ map known_numbers words

-- command k of batch n of a queue can run; a full barrier leads the batch, and each access that was made enters it
pub record IsLed (v : Machine) (q n k : ℕ) (loaded : List ℕ) (c : VkCommand) : Type 0 where
  pub there : command_at v q (record { number = n; index = k }) ≡ Some c
  pub device : meets all_stages (sort_of c).takes ≡ true
  pub leading : command_at v q (leading_of n) ≡ Some to_all
  pub behind : 1 < k
  pub enabled : is_enabled v (Command q n k loaded) ≡ true
  pub entered : Each (Enters q n) v.accesses

-- what such a command reads are the numbers that stand there
abbrev pub ReadsSee : Type 0
ReadsSee =
    (v : Machine) (q n k : ℕ) (loaded : List ℕ) (c : VkCommand) (reads : Accesses) (range : WordRange) → Begins v → IsLed v q n k loaded c → share all_accesses reads ≡ true →
    numbers_read v q (sort_of c).takes reads (record { number = n; index = k }) range ≡ take range.count (drop range.first (numbers_in v.numbers range.resource))

-- known words are known after such a copy, too: they are those with the copy done at once
abbrev pub CopiesAreKnown : Type 0
CopiesAreKnown =
    (v : Machine) (q n k : ℕ) (loaded : List ℕ) (to to_first from from_first count : ℕ) (words : List (List ℕ)) → Begins v → IsLed v q n k loaded (Copy to to_first from from_first count) →
    passes_end v.plan loaded (Copy to to_first from from_first count) ≡ false → AreKnown v words →
    AreKnown (after_step v (Command q n k loaded)) (changed_at (put to_first (range_of from_first count (slice_index_or words from []))) to words)

-- a copy whose words lie inside its buffers passes no end
abbrev pub InsidePassesNoEnd : Type 0
InsidePassesNoEnd =
    (plan : DevicePlan) (loaded : List ℕ) (to to_first from from_first count : ℕ) → to < length plan.buffers → to_first + count ≤ words_in plan (Buffer to) →
    from < length plan.buffers → from_first + count ≤ words_in plan (Buffer from) → passes_end plan loaded (Copy to to_first from from_first count) ≡ false

-- which steps move no number: a submission, a pass, an end, a host read, an update of a slot, and a barrier without a change of a layout
pub record KeepNumbers (v : Machine) : Type 0 where
  pub submission : (b : Batch) → (after_step v (Submit b)).numbers ≡ v.numbers
  pub pass : (q n : ℕ) → (after_step v (Pass q n)).numbers ≡ v.numbers
  pub end : (q n : ℕ) → (after_step v (Bump q n)).numbers ≡ v.numbers
  pub host_read : (buffer first : ℕ) (words : List ℕ) → (after_step v (HostRead buffer first words)).numbers ≡ v.numbers
  pub update : (heap slot : ℕ) → (after_step v (Update heap slot)).numbers ≡ v.numbers
  pub barrier : (q n k : ℕ) (loaded : List ℕ) (from : Stages) (made : Accesses) (to : Stages) (seen : Accesses) →
      command_at v q (record { number = n; index = k }) ≡ Some (Barrier from made to seen None) → (after_step v (Command q n k loaded)).numbers ≡ v.numbers

abbrev pub StepsKeepNumbers : Type 0
StepsKeepNumbers = (v : Machine) → KeepNumbers v

-- a write that was made is seen by the host
abbrev pub IsShownWrite : Machine → DoneAccess → Type 0
IsShownWrite v r = r.writes ≡ true → is_host_seen v r ≡ true

-- where each write is seen by the host, it reads the numbers that stand there
abbrev pub HostReadsSeeNumbers : Type 0
HostReadsSeeNumbers =
    (v : Machine) (buffer first count : ℕ) → Each (IsShownWrite v) v.accesses → host_numbers v buffer first count ≡ take count (drop first (numbers_in v.numbers (Buffer buffer)))

-- and where the words are known, just those
abbrev pub HostReadsAreKnown : Type 0
HostReadsAreKnown =
    (v : Machine) (buffer first count : ℕ) (words : List (List ℕ)) → Each (IsShownWrite v) v.accesses → AreKnown v words →
    host_numbers v buffer first count ≡ known_numbers (range_of first count (slice_index_or words buffer []))

-- known words are known after a host write inside a buffer, too
abbrev pub HostWritesAreKnown : Type 0
HostWritesAreKnown =
    (v : Machine) (buffer first : ℕ) (new : List ℕ) (words : List (List ℕ)) → host_passes_end v buffer first (length new) ≡ false → AreKnown v words →
    AreKnown (after_step v (HostWrite buffer first new)) (changed_at (put first new) buffer words)

-- an answer has each number that is known
abbrev pub AnswersHaveNumbers : Type 0
AnswersHaveNumbers = (xs : List ℕ) (ns : List (Option ℕ)) (i n : ℕ) → Agree xs ns → slice_get ns i ≡ Some (Some n) → slice_get xs i ≡ Some n

-- two answers of known numbers are the same; one of known words is those
abbrev pub AnswersAreOne : Type 0
AnswersAreOne = (xs ys : List ℕ) (ns : List (Option ℕ)) → list_all is_some ns ≡ true → Agree xs ns → Agree ys ns → xs ≡ ys

abbrev pub AnswersAreWords : Type 0
AnswersAreWords = (xs words : List ℕ) → Agree xs (known_numbers words) → xs ≡ words

abbrev pub BuffersAreWords : Type 0
BuffersAreWords = (xs words : List (List ℕ)) → AgreeEach xs (map known_numbers words) → xs ≡ words

-- an answer to the host is the number that stands in a word, where that is known and the last write of the word is seen
abbrev pub SeenAnswersAreFixed : Type 0
SeenAnswersAreFixed =
    (v : Machine) (buffer first count : ℕ) (xs : List ℕ) (i n : ℕ) → Agree xs (host_numbers v buffer first count) → sees_word v buffer (first + i) ≡ true →
    slice_get (take count (drop first (numbers_in v.numbers (Buffer buffer)))) i ≡ Some (Some n) → slice_get xs i ≡ Some n

-- what every state of a run keeps stays over more steps
abbrev pub StaysBegun : Type 0
StaysBegun = (v : Machine) (ss : List VkStep) → Begins v → Runs v ss → Begins (after_steps v ss)

-- the full barrier and the one to the host, by the names of stages and accesses
pub record BarriersNamed : Type 0 where
  pub full : to_all ≡ Barrier (only_stage AllCommands) (record { 0 = access_bit MemoryWrite }) (only_stage AllCommands) (record { 0 = bit_or (access_bit MemoryRead) (access_bit MemoryWrite) }) None
  pub host : to_host ≡ Barrier (only_stage AllCommands) (record { 0 = access_bit MemoryWrite }) (only_stage Host) (record { 0 = access_bit ReadOfHost }) None
