-- A queue whose batches have at most one copy: what its copies read and what the host reads was made before, and is seen.
use Rattle.std.specs.Prelude.{ℕ, ◌≡◌, ◌≤◌, ◌⊎◌, Bool, true, false, List, [], ◌∷◌, ◌++◌, length, slice_get, slice_index_or, Some}
use Rattle.std.specs.List.{list_all}
use Rattle.dx_base.specs.Each.{Each}
use Rattle.dx_base.specs.Lists.{changed_at, put, range_of}
use Rattle.vk_types.specs.declared.batches.Batch.{Batch}
use Rattle.vk_types.specs.declared.commands.VkCommand.{VkCommand}
use Rattle.vk_types.specs.declared.commands.VkCommand.TheVariants.{Barrier, Copy, CopyImage, CopyIn, CopyOut, Clear, Dispatch}
use Rattle.vk_types.specs.declared.steps.VkStep.{VkStep}
use Rattle.vk_types.specs.declared.steps.VkStep.TheVariants.{Submit, Pass, Command, Bump, HostWrite, HostRead, Update}
use Rattle.vk_sync_rules.specs.declared.accesses.DoneAccess.{DoneAccess}
use Rattle.vk_sync_rules.specs.declared.accesses.Maker.{Maker}
use Rattle.vk_sync_rules.specs.Barriers.{to_all, to_host}
use Rattle.vk_sync_rules.specs.Commands.{passes_end}
use Rattle.vk_sync_rules.specs.EnabledSteps.{is_enabled}
use Rattle.vk_sync_rules.specs.FirstState.{Begins, IsFirst}
use Rattle.vk_sync_rules.specs.HostAccesses.{IsHosted}
use Rattle.vk_sync_rules.specs.Machines.{known_numbers}
use Rattle.vk_sync_rules.specs.Rules.{after_step}
use Rattle.vk_sync_rules.specs.Runs.{Fits}
use Rattle.vk_sync_rules.specs.VkState.{VkState as Machine, batch_in, command_at, counts_of}
use Rattle.vk_port.specs.Agreement.{host_numbers}
use Rattle.vk_port.specs.Reads.{AreKnown, IsLed, IsShownWrite}

-- a command copies words of a buffer into a buffer
abbrev pub copies_words : VkCommand → Bool
copies_words (Barrier from made to seen change) = false
copies_words (Copy to to_first from from_first words) = true
copies_words (CopyImage to to_sub to_layout from from_sub from_layout) = false
copies_words (CopyIn image sub layout buffer first pitch) = false
copies_words (CopyOut buffer first pitch image sub layout) = false
copies_words (Clear target word) = false
copies_words (Dispatch routine count t0 t1 u0 b0) = false

-- a batch has at most one copy, between a full barrier and one to the host, and sets some value
pub record IsEnclosed (b : Batch) : Type 0 where
  pub copies : List VkCommand
  pub commands : b.commands ≡ to_all ∷ (copies ++ to_host ∷ [])
  pub single : length copies ≤ 1
  pub plain : list_all copies_words copies ≡ true
  pub pair : ℕ × ℕ
  pub sets : slice_get b.sets 0 ≡ Some pair

-- or it has no commands
abbrev pub IsSimple : Batch → Type 0
IsSimple b = (b.commands ≡ []) ⊎ IsEnclosed b

-- the host made an access, or a command of a queue did
abbrev pub IsOfQueue : ℕ → DoneAccess → Type 0
IsOfQueue q r = (m : Maker) → r.by ≡ Some m → m.queue ≡ q

-- each access is the host's or the queue's, its batches are simple, and what the host made is ordered before each of them that has
-- commands and has not ended
pub record IsSettled (v : Machine) (q : ℕ) : Type 0 where
  pub alone : Each (IsOfQueue q) v.accesses
  pub simple : (n : ℕ) (b : Batch) → batch_in q n v.journal ≡ Some b → IsSimple b
  pub hosted : (n : ℕ) (b : Batch) → batch_in q n v.journal ≡ Some b → (counts_of v q).ended ≤ n → (b.commands ≡ []) ⊎ Each (IsHosted q n) v.accesses

-- each batch of a queue that has commands has ended
abbrev pub HasFinished : Machine → ℕ → Type 0
HasFinished v q = (n : ℕ) (b : Batch) → batch_in q n v.journal ≡ Some b → (counts_of v q).ended ≤ n → b.commands ≡ []

-- a step that leaves a queue settled: a submission of a simple batch, a command of the queue, and a host access where its batches
-- that have commands have ended; any pass, end and update
abbrev pub Suits : Machine → ℕ → VkStep → Type 0
Suits v q (Submit b) = b.queue ≡ q → IsSimple b
Suits v q (Pass p n) = Unit {0}
Suits v q (Command p n k loaded) = p ≡ q
Suits v q (Bump p n) = Unit {0}
Suits v q (HostWrite buffer first words) = HasFinished v q
Suits v q (HostRead buffer first words) = HasFinished v q
Suits v q (Update heap slot) = Unit {0}

abbrev pub FirstIsSettled : Type 0
FirstIsSettled = (v : Machine) (q : ℕ) → IsFirst v → IsSettled v q

abbrev pub StaysSettled : Type 0
StaysSettled = (v : Machine) (q : ℕ) (s : VkStep) → Begins v → IsSettled v q → is_enabled v s ≡ true → Fits v s → Suits v q s → IsSettled (after_step v s) q

-- a copy of the queue that can run follows all that was made
abbrev pub SettledCopiesAreLed : Type 0
SettledCopiesAreLed =
    (v : Machine) (q n k : ℕ) (loaded : List ℕ) (c : VkCommand) → Begins v → IsSettled v q → command_at v q (record { number = n; index = k }) ≡ Some c → copies_words c ≡ true →
    is_enabled v (Command q n k loaded) ≡ true → IsLed v q n k loaded c

-- so known words are known after it, too: they are those with the copy done at once
abbrev pub SettledCopiesAreKnown : Type 0
SettledCopiesAreKnown =
    (v : Machine) (q n k : ℕ) (loaded : List ℕ) (to to_first from from_first count : ℕ) (words : List (List ℕ)) → Begins v → IsSettled v q →
    command_at v q (record { number = n; index = k }) ≡ Some (Copy to to_first from from_first count) → is_enabled v (Command q n k loaded) ≡ true →
    passes_end v.plan loaded (Copy to to_first from from_first count) ≡ false → AreKnown v words →
    AreKnown (after_step v (Command q n k loaded)) (changed_at (put to_first (range_of from_first count (slice_index_or words from []))) to words)

-- where the queue's batches that have commands have ended, the host sees each write
abbrev pub SettledWritesAreShown : Type 0
SettledWritesAreShown = (v : Machine) (q : ℕ) → Begins v → IsSettled v q → HasFinished v q → Each (IsShownWrite v) v.accesses

-- so it reads known words
abbrev pub SettledHostReadsAreKnown : Type 0
SettledHostReadsAreKnown =
    (v : Machine) (q : ℕ) (buffer first count : ℕ) (words : List (List ℕ)) → Begins v → IsSettled v q → HasFinished v q → AreKnown v words →
    host_numbers v buffer first count ≡ known_numbers (range_of first count (slice_index_or words buffer []))
