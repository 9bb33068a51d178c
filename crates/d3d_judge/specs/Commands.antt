-- Commands as the rules see them: what each accesses, or its barrier.
use Rattle.std.specs.Prelude.{ℕ, List, [], ◌∷◌, Bool, true, false, not, ◌/◌, ◌&&◌, ◌||◌, ◌==◌}
use Rattle.std.specs.List.{list_any}
use Rattle.dx_flags.specs.declared.atoms.Part.{Part}
use Rattle.dx_flags.specs.declared.atoms.Part.TheVariants as part
use Rattle.dx_flags.specs.declared.atoms.Kind.{Kind}
use Rattle.dx_flags.specs.declared.atoms.Kind.TheVariants as kind
use Rattle.dx_flags.specs.declared.layouts.Layout.{Layout}
use Rattle.dx_flags.specs.declared.layouts.Layout.TheVariants as layout
use Rattle.dx_flags.specs.Kinds.{has_kind, all_kinds}
use Rattle.dx_flags.specs.Parts.{has_part, all_parts}
use Rattle.dx_flags.specs.SyncNames as sync
use Rattle.dx_flags.specs.Syncs.{sync_has}
use Rattle.enhanced_barriers.specs.declared.barriers.Barrier.{Barrier}
use Rattle.enhanced_barriers.specs.Legal.{is_undefined}
use Rattle.d3d_machine.specs.declared.calls.Record.{Record}
use Rattle.d3d_machine.specs.declared.calls.Record.TheVariants.{Copy}

-- words of one subresource, from a first one on; a buffer is one subresource
pub record Range : Type 0 where
  pub resource : ℕ
  pub sub : ℕ
  pub first : ℕ
  pub words : ℕ

-- an access of a command, one of each register
pub record Access : Type 0 where
  pub range : Range
  pub kind : Kind
  pub reads : Bool
  pub writes : Bool

-- a part of the work of queues, and a kind of access that it makes
pub record Pair : Type 0 where
  pub part : Part
  pub kind : Kind

-- a command: the part that it works in, with its accesses; or a barrier
pub data Command : Type 0 where
  Accesses : (part : Part) → (all : List Access) → Command
  Bars : (barrier : Barrier) → Command

-- the pair of an access
abbrev pub pair_of : Part → Access → Pair
pair_of p a = record { part = p; kind = a.kind }

-- the words of a buffer from an offset on, both in bytes
abbrev pub bytes_of : ℕ → ℕ → ℕ → Range
bytes_of r offset bytes = record { resource = r; sub = 0; first = offset / 4; words = bytes / 4 }

-- what a copy reads, and what it writes
abbrev pub copied_from : Range → Access
copied_from r = record { range = r; kind = kind.CopySource; reads = true; writes = false }

abbrev pub copied_to : Range → Access
copied_to r = record { range = r; kind = kind.CopyDest; reads = false; writes = true }

-- what a recorded command is
abbrev pub command_of : Record → Command
command_of (Copy d doff s soff bytes) =
    Accesses part.Copy (copied_from (bytes_of s.0 soff bytes) ∷ copied_to (bytes_of d.0 doff bytes) ∷ [])

-- the after side of a barrier has a pair whose part is in the sync before of another
abbrev pub chains : Barrier → Barrier → Bool
chains earlier later =
    list_any (λ p. has_part p earlier.sync_after && has_part p later.sync_before) all_parts
    && list_any (λ k. has_kind k earlier.access_after) all_kinds

-- the sync before of a barrier is NONE
abbrev pub is_none : Barrier → Bool
is_none b = sync_has b.sync_before sync.NONE

abbrev pub layout_number : Layout → ℕ
layout_number layout.Undefined = 0
layout_number layout.Common = 1
layout_number layout.GenericRead = 2
layout_number layout.UnorderedAccess = 3
layout_number layout.ShaderResource = 4
layout_number layout.CopySource = 5
layout_number layout.CopyDest = 6

abbrev pub same_layout : Layout → Layout → Bool
same_layout a b = layout_number a == layout_number b

-- a barrier of a texture that changes its layout: the two differ, or the layout before is UNDEFINED
abbrev pub is_change : Barrier → Bool
is_change b = not (same_layout b.layout_before b.layout_after) || is_undefined b.layout_before
