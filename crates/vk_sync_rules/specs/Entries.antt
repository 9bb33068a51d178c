-- What comes before the commands of a batch by its leading barrier.
use Rattle.std.specs.Prelude.{ℕ, ◌≡◌, ◌<◌, true, List, slice_get, Some, None}
use Rattle.vk_types.specs.declared.accesses.Accesses.{Accesses}
use Rattle.vk_types.specs.declared.commands.VkCommand.{VkCommand}
use Rattle.vk_types.specs.declared.stages.Stages.{Stages}
use Rattle.vk_types.specs.declared.steps.VkStep.TheVariants.{Command}
use Rattle.vk_types.specs.Stages.{meets}
use Rattle.vk_sync_rules.specs.declared.accesses.DoneAccess.{DoneAccess}
use Rattle.vk_sync_rules.specs.declared.accesses.Maker.{Maker}
use Rattle.vk_sync_rules.specs.declared.places.Place.{Place}
use Rattle.vk_sync_rules.specs.AccessSets.{share, all_stages, all_accesses, every_write}
use Rattle.vk_sync_rules.specs.Barriers.{AreBehind, is_ready, to_all}
use Rattle.vk_sync_rules.specs.BatchEnds.{IsReached}
use Rattle.vk_sync_rules.specs.DoneAccesses.{in_scope, is_covered, ordered, reaches, sees}
use Rattle.vk_sync_rules.specs.EnabledSteps.{is_enabled}
use Rattle.vk_sync_rules.specs.HostAccesses.{IsHosted}
use Rattle.vk_sync_rules.specs.Makers.{HasOwner}
use Rattle.vk_sync_rules.specs.Orders.{sort_of}
use Rattle.vk_sync_rules.specs.Soundness.{IsSound}
use Rattle.vk_sync_rules.specs.VkState.{VkState, command_at}

-- the place of the first command of a batch
abbrev pub leading_of : ℕ → Place
leading_of n = record { number = n; index = 1 }

-- an access is in the first scope of a full barrier that leads batch n of a queue, and a write is ready there
pub record Enters (q n : ℕ) (r : DoneAccess) : Type 0 where
  pub scope : in_scope q all_stages (leading_of n) r ≡ true
  pub ready : r.writes ≡ true → is_ready q (leading_of n) all_stages every_write r ≡ true

-- a command made an access: what it gives is for stages of the device, which is so of all but barriers to the host alone
pub record IsMadeBy (v : VkState) (m : Maker) (r : DoneAccess) : Type 0 where
  pub is : r.by ≡ Some m
  pub command : VkCommand
  pub there : command_at v m.queue m.place ≡ Some command
  pub device : meets (sort_of command).gives all_stages ≡ true

-- what was made in an earlier batch of the queue enters
abbrev pub EarlierEnter : Type 0
EarlierEnter = (v : VkState) (m : Maker) (n : ℕ) (r : DoneAccess) → HasOwner v.plan v.done v.journal r → IsMadeBy v m r → m.place.number < n → Enters m.queue n r

-- so does what the host made before the submission
abbrev pub HostEnters : Type 0
HostEnters = (v : VkState) (q n : ℕ) (r : DoneAccess) → HasOwner v.plan v.done v.journal r → r.by ≡ None → IsHosted q n r → Enters q n r

-- and what the waits of the batch cover
abbrev pub WaitsEnter : Type 0
WaitsEnter = (q n : ℕ) (waits : List (ℕ × ℕ)) (r : DoneAccess) → IsReached q n waits r → is_covered waits r.signals ≡ true → Enters q n r

-- what enters stays entered, and enters the later batches of the queue
abbrev pub EnteredStay : Type 0
EnteredStay = (q n m : ℕ) (r : DoneAccess) → n < m → Enters q n r → Enters q m r

-- an access comes before all stages of the device at a place of a queue, and a write is seen there by each access
pub record IsCovered (q : ℕ) (p : Place) (r : DoneAccess) : Type 0 where
  pub order : (stages : Stages) → meets all_stages stages ≡ true → ordered q stages p r ≡ true
  pub reach : (stages : Stages) → r.writes ≡ true → meets all_stages stages ≡ true → reaches q stages p r ≡ true
  pub sight : (stages : Stages) (accesses : Accesses) → r.writes ≡ true → meets all_stages stages ≡ true → share all_accesses accesses ≡ true → sees q stages accesses p r ≡ true

-- where a full barrier leads a batch, what enters it comes before each of its commands that can run in a stage of the device
abbrev pub EnteredAreCovered : Type 0
EnteredAreCovered =
    (v : VkState) (q n k : ℕ) (loaded : List ℕ) (c : VkCommand) → IsSound v → AreBehind v → command_at v q (leading_of n) ≡ Some to_all → 1 < k →
    command_at v q (record { number = n; index = k }) ≡ Some c → meets all_stages (sort_of c).takes ≡ true → is_enabled v (Command q n k loaded) ≡ true →
    (i : ℕ) (r : DoneAccess) → slice_get v.accesses i ≡ Some r → Enters q n r → IsCovered q (record { number = n; index = k }) r
