-- Laws of the tables that lower Direct3D to Vulkan.
use Rattle.std.specs.Prelude.{◌≡◌, ◌↔◌, ◌==◌, ◌++◌, ◌∷◌, ℕ, Bool, true, false, List, Some, None}
use Rattle.std.specs.List.{list_any}
use Rattle.dx_flags.specs.declared.accesses.Access.{Access}
use Rattle.dx_flags.specs.declared.atoms.Kind.{Kind}
use Rattle.dx_flags.specs.declared.atoms.Part.{Part}
use Rattle.dx_flags.specs.declared.layouts.Layout.{Layout}
use Rattle.dx_flags.specs.declared.states.State.{State}
use Rattle.dx_flags.specs.declared.syncs.Sync.{Sync}
use Rattle.dx_flags.specs.Kinds.{has_kind}
use Rattle.dx_flags.specs.AccessNames.{AccessName, access_text}
use Rattle.dx_flags.specs.Accesses.{one_access}
use Rattle.dx_flags.specs.Layouts.{layout_allows}
use Rattle.dx_flags.specs.Parts.{has_part}
use Rattle.dx_flags.specs.StateNames.{StateName, state_text}
use Rattle.dx_flags.specs.States.{one_state}
use Rattle.dx_flags.specs.SyncNames.{SyncName, sync_text}
use Rattle.dx_flags.specs.Syncs.{one_sync, is_well_formed_sync}
use Rattle.vk_types.specs.declared.accesses.Access.{Access as VkAccess}
use Rattle.vk_types.specs.declared.accesses.Accesses.{Accesses}
use Rattle.vk_types.specs.declared.stages.Stage.TheVariants.{AllCommands}
use Rattle.vk_types.specs.declared.stages.Stages.{Stages}
use Rattle.vk_types.specs.Stages.{meets, only_stage}
use Rattle.vk_types.specs.Support.{supports}
use Rattle.vk_types.specs.Whole.{stands_for_stage, stands_for_access, image_allows}
use Rattle.lower_tables.specs.Accesses.{access_of}
use Rattle.lower_tables.specs.Layouts.{layout_of}
use Rattle.lower_tables.specs.Made.{stage_of_part, is_made_by}
use Rattle.lower_tables.specs.Names.{layout_text, sync_named, sync_name, access_named, access_name, layout_named, layout_name, state_named, state_name}
use Rattle.lower_tables.specs.Pairs.{state_has_pair}
use Rattle.lower_tables.specs.Rows.{first_value}
use Rattle.lower_tables.specs.Stages.{stage_of}
use Rattle.lower_tables.specs.States.{state_of}

-- some row has the key
abbrev pub has_key : {V : Type 0} → ℕ → List (ℕ × V) → Bool
has_key key rows = list_any (λ row. row.0 == key) rows

-- a row has the key and the value, and no row before it has the key
pub record IsInFirstRow {V : Type 0} (key : ℕ) (value : V) (rows : List (ℕ × V)) : Type 0 where
  pub before : List (ℕ × V)
  pub after : List (ℕ × V)
  pub split : rows ≡ before ++ ((key, value) ∷ after)
  pub first : has_key key before ≡ false

-- a key finds nothing exactly where no row has it, and a value exactly where that is in the first row with the key
pub record TheFirstRowCounts (V : Type 0) : Type 0 where
  pub none : (key : ℕ) (rows : List (ℕ × V)) → (first_value key rows ≡ None) ↔ (has_key key rows ≡ false)
  pub some : (key : ℕ) (rows : List (ℕ × V)) (value : V) → (first_value key rows ≡ Some value) ↔ IsInFirstRow key value rows

-- a text names a value exactly where it is the text of a single name, and the value that name alone
pub record NamesAreOfSingles : Type 0 where
  pub syncs : (text : List ℕ) (one : Sync) → (sync_named text ≡ Some one) ↔ ((name : SyncName) × ((text ≡ sync_text name) × (one ≡ one_sync name)))
  pub accesses : (text : List ℕ) (one : Access) → (access_named text ≡ Some one) ↔ ((name : AccessName) × ((text ≡ access_text name) × (one ≡ one_access name)))
  pub layouts : (text : List ℕ) (one : Layout) → (layout_named text ≡ Some one) ↔ (text ≡ layout_text one)
  pub states : (text : List ℕ) (one : State) → (state_named text ≡ Some one) ↔ ((name : StateName) × ((text ≡ state_text name) × (one ≡ one_state name)))

-- a value has a text exactly where the text names that value
pub record NamesGoBothWays : Type 0 where
  pub syncs : (text : List ℕ) (one : Sync) → (sync_named text ≡ Some one) ↔ (sync_name one ≡ Some text)
  pub accesses : (text : List ℕ) (one : Access) → (access_named text ≡ Some one) ↔ (access_name one ≡ Some text)
  pub layouts : (text : List ℕ) (one : Layout) → (layout_named text ≡ Some one) ↔ (layout_name one ≡ Some text)
  pub states : (text : List ℕ) (one : State) → (state_named text ≡ Some one) ↔ (state_name one ≡ Some text)

-- where a set of syncs has a part, its stages stand for the part's
abbrev pub StagesTakeInParts : Type 0
StagesTakeInParts = (part : Part) (sync : Sync) → has_part part sync ≡ true → stands_for_stage (stage_of sync) (stage_of_part part) ≡ true

-- where a set of accesses has a kind, its memory accesses stand for each that the kind makes
abbrev pub AccessesTakeInKinds : Type 0
AccessesTakeInKinds =
    (kind : Kind) (access : Access) (made : VkAccess) →
    has_kind kind access ≡ true → is_made_by kind made ≡ true → stands_for_access (access_of access) made ≡ true

-- each well-formed set of syncs has a stage of the device
abbrev pub SyncsHaveStages : Type 0
SyncsHaveStages = (sync : Sync) → is_well_formed_sync sync ≡ true → meets (stage_of sync) (only_stage AllCommands) ≡ true

-- where a layout allows a kind, the image's layout allows each memory access that the kind makes
abbrev pub LayoutsAllowKinds : Type 0
LayoutsAllowKinds =
    (layout : Layout) (kind : Kind) (shared : Bool) (made : VkAccess) →
    layout_allows layout kind shared ≡ true → is_made_by kind made ≡ true → image_allows (layout_of layout) made ≡ true

-- where a union of states has a part and a kind, its stages stand for the part's, and its accesses for each that the
-- kind makes
pub record StatesTakeInPairs : Type 0 where
  pub stages : (state : State) (part : Part) (kind : Kind) →
      state_has_pair state part kind ≡ true → stands_for_stage (state_of state).0 (stage_of_part part) ≡ true
  pub accesses : (state : State) (part : Part) (kind : Kind) (made : VkAccess) →
      state_has_pair state part kind ≡ true → is_made_by kind made ≡ true → stands_for_access (state_of state).1 made ≡ true

-- the stages of a barrier's side support its accesses
abbrev pub is_supported_side : Stages × Accesses → Bool
is_supported_side side = supports side.0 side.1
