-- The names of syncs, accesses, layouts and states, as texts.
use Rattle.std.specs.Prelude.{ℕ, List, [], ◌∷◌, Option, Some, codes, map}
use Rattle.dx_flags.specs.declared.accesses.Access.{Access}
use Rattle.dx_flags.specs.declared.layouts.Layout.{Layout}
use Rattle.dx_flags.specs.declared.layouts.Layout.TheVariants.{Undefined, Common, GenericRead, UnorderedAccess, ShaderResource, CopySource, CopyDest}
use Rattle.dx_flags.specs.declared.states.State.{State}
use Rattle.dx_flags.specs.declared.syncs.Sync.{Sync}
use Rattle.dx_flags.specs.AccessNames.{access_bit, access_text, access_names}
use Rattle.dx_flags.specs.Accesses.{one_access}
use Rattle.dx_flags.specs.StateNames.{state_bit, state_text, state_names}
use Rattle.dx_flags.specs.States.{one_state}
use Rattle.dx_flags.specs.SyncNames.{sync_bit, sync_text, sync_names}
use Rattle.dx_flags.specs.Syncs.{one_sync}
use Rattle.trace_words.specs.Rows.{row_of}
use Rattle.lower_tables.specs.Rows.{first_value}

-- the sync that has a text
unfoldable pub sync_named : List ℕ → Option Sync
sync_named text = row_of (map (λ name. (sync_text name, one_sync name)) sync_names) text

-- the text of a sync, where a set is a single one
unfoldable pub sync_name : Sync → Option (List ℕ)
sync_name one = first_value one.0 (map (λ name. (sync_bit name, sync_text name)) sync_names)

-- the access that has a text
unfoldable pub access_named : List ℕ → Option Access
access_named text = row_of (map (λ name. (access_text name, one_access name)) access_names) text

-- the text of an access, where a set is a single one
unfoldable pub access_name : Access → Option (List ℕ)
access_name one = first_value one.0 (map (λ name. (access_bit name, access_text name)) access_names)

-- the state that has a text
unfoldable pub state_named : List ℕ → Option State
state_named text = row_of (map (λ name. (state_text name, one_state name)) state_names) text

-- the text of a state, where a union is a single one
unfoldable pub state_name : State → Option (List ℕ)
state_name one = first_value one.0 (map (λ name. (state_bit name, state_text name)) state_names)

-- the text of each layout
abbrev pub layout_text : Layout → List ℕ
layout_text Undefined = codes "UNDEFINED"
layout_text Common = codes "COMMON"
layout_text GenericRead = codes "GENERIC_READ"
layout_text UnorderedAccess = codes "UNORDERED_ACCESS"
layout_text ShaderResource = codes "SHADER_RESOURCE"
layout_text CopySource = codes "COPY_SOURCE"
layout_text CopyDest = codes "COPY_DEST"

-- all layouts
abbrev pub all_layouts : List Layout
all_layouts = Undefined ∷ Common ∷ GenericRead ∷ UnorderedAccess ∷ ShaderResource ∷ CopySource ∷ CopyDest ∷ []

-- the layout that has a text
unfoldable pub layout_named : List ℕ → Option Layout
layout_named text = row_of (map (λ layout. (layout_text layout, layout)) all_layouts) text

-- the text of a layout, which each has
abbrev pub layout_name : Layout → Option (List ℕ)
layout_name layout = Some (layout_text layout)
