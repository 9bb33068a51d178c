-- What a done barrier means, in every later state (Vulkan 1.3, 7.1: memory dependencies).
use Rattle.std.specs.Prelude.{ℕ, ◌≡◌, Bool, true, ◌||◌, List, Option, Some, None}
use Rattle.dx_base.specs.Each.{Each}
use Rattle.vk_types.specs.declared.accesses.Accesses.{Accesses}
use Rattle.vk_types.specs.declared.commands.VkCommand.{VkCommand}
use Rattle.vk_types.specs.declared.commands.VkCommand.TheVariants.{Barrier}
use Rattle.vk_types.specs.declared.layouts.Change.{Change}
use Rattle.vk_types.specs.declared.stages.Stages.{Stages}
use Rattle.vk_types.specs.declared.steps.VkStep.{VkStep}
use Rattle.vk_types.specs.Stages.{meets}
use Rattle.vk_sync_rules.specs.declared.accesses.DoneAccess.{DoneAccess}
use Rattle.vk_sync_rules.specs.declared.places.Place.{Place}
use Rattle.vk_sync_rules.specs.AccessSets.{share, all_stages, all_accesses, every_write, host_stage, host_reads}
use Rattle.vk_sync_rules.specs.DoneAccesses.{ordered, sees, reaches, in_scope, is_made_available}
use Rattle.vk_sync_rules.specs.Rules.{after_steps}
use Rattle.vk_sync_rules.specs.Runs.{Runs}
use Rattle.vk_sync_rules.specs.Soundness.{IsSound}
use Rattle.vk_sync_rules.specs.VkState.{VkState, command_at, is_done}

-- a write that a barrier makes available, or that was available when it was reached
abbrev pub is_ready : ℕ → Place → Stages → Accesses → DoneAccess → Bool
is_ready q p from made r = is_made_available q p from made r || reaches q from p r

-- an access behind a done barrier: in its first scope it is ordered before its second one, and a write that is ready is seen there
pub record IsBehind (q : ℕ) (p : Place) (from : Stages) (made : Accesses) (to : Stages) (seen : Accesses) (r : DoneAccess) : Type 0 where
  pub order : (stages : Stages) → in_scope q from p r ≡ true → meets to stages ≡ true → ordered q stages p r ≡ true
  pub reach : (stages : Stages) → r.writes ≡ true → is_ready q p from made r ≡ true → meets to stages ≡ true → reaches q stages p r ≡ true
  pub sight : (stages : Stages) (accesses : Accesses) → r.writes ≡ true → is_ready q p from made r ≡ true → meets to stages ≡ true → share seen accesses ≡ true →
      sees q stages accesses p r ≡ true

-- where some gain tells that a write was available, it is
pub record IsHonest (r : DoneAccess) : Type 0 where
  pub available : (q : ℕ) (stages : Stages) (p : Place) → reaches q stages p r ≡ true → r.available ≡ true

-- each access is behind each done barrier
pub record AreBehind (v : VkState) : Type 0 where
  pub honest : Each IsHonest v.accesses
  pub behind : (q : ℕ) (p : Place) (from : Stages) (made : Accesses) (to : Stages) (seen : Accesses) (change : Option Change) →
      command_at v q p ≡ Some (Barrier from made to seen change) → is_done v.done q p ≡ true → Each (IsBehind q p from made to seen) v.accesses

abbrev pub StaysBehind : Type 0
StaysBehind = (v : VkState) (ss : List VkStep) → IsSound v → AreBehind v → Runs v ss → AreBehind (after_steps v ss)

-- a full barrier, and one to the host
abbrev pub to_all : VkCommand
to_all = Barrier all_stages every_write all_stages all_accesses None

abbrev pub to_host : VkCommand
to_host = Barrier all_stages every_write host_stage host_reads None

-- behind a full barrier: what is in its first scope is ordered before each stage, and a write that is ready is seen by each access
abbrev pub IsCleared : ℕ → Place → DoneAccess → Type 0
IsCleared q p r = IsBehind q p all_stages every_write all_stages all_accesses r

abbrev pub BarriersClear : Type 0
BarriersClear = (v : VkState) (q : ℕ) (p : Place) → AreBehind v → command_at v q p ≡ Some to_all → is_done v.done q p ≡ true → Each (IsCleared q p) v.accesses

-- behind a barrier to the host: a write that is ready is seen by reads of the host
pub record IsShown (q : ℕ) (p : Place) (r : DoneAccess) : Type 0 where
  pub sight : r.writes ≡ true → is_ready q p all_stages every_write r ≡ true → sees q host_stage host_reads p r ≡ true

abbrev pub BarriersShow : Type 0
BarriersShow = (v : VkState) (q : ℕ) (p : Place) → AreBehind v → command_at v q p ≡ Some to_host → is_done v.done q p ≡ true → Each (IsShown q p) v.accesses
