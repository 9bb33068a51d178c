-- Laws of the sets and of their tables.
use Rattle.std.specs.Prelude.{◌≡◌, ◌<◌, ◌^◌, ◌↔◌, Bool, true, false, ◌==◌, ◌||◌, bit_or, Some}
use Rattle.dx_flags.specs.declared.atoms.Kind.{Kind}
use Rattle.dx_flags.specs.declared.atoms.Part.{Part}
use Rattle.dx_flags.specs.declared.layouts.Layout.{Layout}
use Rattle.dx_flags.specs.declared.states.State.{State}
use Rattle.dx_flags.specs.declared.states.TheConstants.State.{GENERIC_READ}
use Rattle.dx_flags.specs.declared.syncs.Sync.{Sync}
use Rattle.dx_flags.specs.declared.accesses.Access.{Access}
use Rattle.dx_flags.specs.AccessNames.{AccessName, access_bit, COMMON, NO_ACCESS}
use Rattle.dx_flags.specs.Accesses.{one_access, access_has, may_join_accesses, is_well_formed_access}
use Rattle.dx_flags.specs.Fits.{accesses_of_name, is_access_of, fits_of}
use Rattle.dx_flags.specs.Kinds.{name_of_kind, kinds_of_name, is_kind_of, has_kind, kinds_of, kind_of}
use Rattle.dx_flags.specs.Layouts.{layout_allows, allows}
use Rattle.dx_flags.specs.Parts.{name_of_part, parts_of_name, is_part_of, has_part, parts_of, part_of}
use Rattle.dx_flags.specs.StateNames.{StateName, state_bit}
use Rattle.dx_flags.specs.States.{one_state, state_has, is_read, is_valid}
use Rattle.dx_flags.specs.SyncNames.{SyncName, sync_bit}
use Rattle.dx_flags.specs.Syncs.{one_sync, sync_has, may_join_syncs, is_well_formed_sync}

-- two sets without unknown bits that have the same names are one
pub record SetsAreTheirNames : Type 0 where
  pub syncs : (a b : Sync) → a.0 < 2 ^ 7 → b.0 < 2 ^ 7 → ((name : SyncName) → sync_has a name ≡ sync_has b name) → a ≡ b
  pub accesses : (a b : Access) → a.0 < 2 ^ 7 → b.0 < 2 ^ 7 → ((name : AccessName) → access_has a name ≡ access_has b name) → a ≡ b
  pub states : (a b : State) → a.0 < 2 ^ 7 → b.0 < 2 ^ 7 → ((name : StateName) → state_has a name ≡ state_has b name) → a ≡ b

-- a name that stands alone in a set is its only one
pub record SinglesHaveOne : Type 0 where
  pub syncs : (name other : SyncName) → sync_has (one_sync name) other ≡ (sync_bit name == sync_bit other)
  pub accesses : (name other : AccessName) → access_has (one_access name) other ≡ (access_bit name == access_bit other)
  pub states : (name other : StateName) → state_has (one_state name) other ≡ (state_bit name == state_bit other)

-- a union has the names of both sets
pub record UnionsHaveBoth : Type 0 where
  pub syncs : (a b : Sync) (name : SyncName) → sync_has (record { 0 = bit_or a.0 b.0 }) name ≡ (sync_has a name || sync_has b name)
  pub accesses : (a b : Access) (name : AccessName) → access_has (record { 0 = bit_or a.0 b.0 }) name ≡ (access_has a name || access_has b name)
  pub states : (a b : State) (name : StateName) → state_has (record { 0 = bit_or a.0 b.0 }) name ≡ (state_has a name || state_has b name)

-- a well-formed set has a name, and one that stands alone is the whole set; each name alone is well formed
pub record WellFormedSets : Type 0 where
  pub sync_name : (sync : Sync) → is_well_formed_sync sync ≡ true → (name : SyncName) × (sync_has sync name ≡ true)
  pub sync_alone : (sync : Sync) (name : SyncName) → is_well_formed_sync sync ≡ true → may_join_syncs name ≡ false → sync_has sync name ≡ true → sync ≡ one_sync name
  pub sync_single : (name : SyncName) → is_well_formed_sync (one_sync name) ≡ true
  pub access_name : (access : Access) → is_well_formed_access access ≡ true → (name : AccessName) × (access_has access name ≡ true)
  pub access_alone : (access : Access) (name : AccessName) → is_well_formed_access access ≡ true → may_join_accesses name ≡ false → access_has access name ≡ true → access ≡ one_access name
  pub access_single : (name : AccessName) → is_well_formed_access (one_access name) ≡ true
  pub state_name : (state : State) → is_valid state ≡ true → (name : StateName) × (state_has state name ≡ true)
  pub state_alone : (state : State) (name : StateName) → is_valid state ≡ true → is_read name ≡ false → state_has state name ≡ true → state ≡ one_state name
  pub state_single : (name : StateName) → is_valid (one_state name) ≡ true

-- the names of GENERIC_READ are the read states, and it has no unknown bit
pub record GenericReadIsTheReads : Type 0 where
  pub known : GENERIC_READ.0 < 2 ^ 7
  pub names : (name : StateName) → state_has GENERIC_READ name ≡ is_read name

-- a set has a part or a kind exactly where one of its names has it; its accesses fit exactly where each fits one of
-- the syncs; and a layout allows it exactly where it allows each of its kinds
pub record TablesGoByNames : Type 0 where
  pub part : (part : Part) (sync : Sync) →
      (has_part part sync ≡ true) ↔ ((name : SyncName) × ((sync_has sync name ≡ true) × (is_part_of (parts_of_name name) part ≡ true)))
  pub kind : (kind : Kind) (access : Access) →
      (has_kind kind access ≡ true) ↔ ((name : AccessName) × ((access_has access name ≡ true) × (is_kind_of (kinds_of_name name) kind ≡ true)))
  pub fit : (sync : Sync) (access : Access) →
      (fits_of sync access ≡ true)
      ↔ ((one : AccessName) → access_has access one ≡ true → (name : SyncName) × ((sync_has sync name ≡ true) × (is_access_of (accesses_of_name name) one ≡ true)))
  pub allowed : (layout : Layout) (access : Access) (shared : Bool) →
      (allows layout access shared ≡ true) ↔ ((kind : Kind) → has_kind kind access ≡ true → layout_allows layout kind shared ≡ true)

-- parts and kinds stand for themselves, and to take them twice is to take them once
pub record AtomsStay : Type 0 where
  pub parts : (sync : Sync) → parts_of (parts_of sync) ≡ parts_of sync
  pub kinds : (access : Access) → kinds_of (kinds_of access) ≡ kinds_of access
  pub part : (part : Part) → part_of (one_sync (name_of_part part)) ≡ Some part
  pub kind : (kind : Kind) → kind_of (one_access (name_of_kind kind)) ≡ Some kind

-- no layout allows access COMMON, which has all kinds, and each allows NO_ACCESS, which has none
pub record LayoutsAndCommon : Type 0 where
  pub common : (layout : Layout) (shared : Bool) → allows layout (one_access COMMON) shared ≡ false
  pub none : (layout : Layout) (shared : Bool) → allows layout (one_access NO_ACCESS) shared ≡ true
