-- Laws of legal barriers, and of what they cover.
use Rattle.std.specs.Prelude.{◌≡◌, ◌≢◌, ◌↔◌, ℕ, Bool, true, Option}
use Rattle.dx_base.specs.declared.ids.ResourceId.{ResourceId}
use Rattle.dx_base.specs.declared.kinds.ListType.{ListType}
use Rattle.dx_base.specs.declared.kinds.ListType.TheVariants.{Copy}
use Rattle.dx_flags.specs.declared.atoms.Kind.{Kind}
use Rattle.dx_flags.specs.declared.atoms.Part.{Part}
use Rattle.dx_flags.specs.declared.layouts.Layout.TheVariants.{Undefined}
use Rattle.dx_flags.specs.Accesses.{one_access, is_well_formed_access}
use Rattle.dx_flags.specs.Fits.{fits_of}
use Rattle.dx_flags.specs.Kinds.{name_of_kind}
use Rattle.dx_flags.specs.Parts.{name_of_part}
use Rattle.dx_flags.specs.Syncs.{one_sync, is_well_formed_sync}
use Rattle.enhanced_barriers.specs.declared.barriers.Barrier.{Barrier}
use Rattle.enhanced_barriers.specs.declared.barriers.Scope.TheVariants.{Texture}
use Rattle.enhanced_barriers.specs.Cover.{before_has, covers_of}
use Rattle.enhanced_barriers.specs.Legal.{suits_list, suits_layouts, is_legal}

-- what holds of a legal barrier
pub record IsLegal (barrier : Barrier) (list : ListType) (shared : Bool) : Type 0 where
  pub sync_before : is_well_formed_sync barrier.sync_before ≡ true
  pub access_before : is_well_formed_access barrier.access_before ≡ true
  pub fits_before : fits_of barrier.sync_before barrier.access_before ≡ true
  pub sync_after : is_well_formed_sync barrier.sync_after ≡ true
  pub access_after : is_well_formed_access barrier.access_after ≡ true
  pub fits_after : fits_of barrier.sync_after barrier.access_after ≡ true
  pub on_list : suits_list barrier list ≡ true
  pub of_layouts : suits_layouts barrier.scope barrier shared ≡ true

-- a barrier is legal exactly where all of it holds
abbrev pub LegalMeans : Type 0
LegalMeans = (barrier : Barrier) (list : ListType) (shared : Bool) → (is_legal barrier list shared ≡ true) ↔ IsLegal barrier list shared

-- the layout after of a legal barrier of a texture is not UNDEFINED
abbrev pub NoLegalLayoutIsLost : Type 0
NoLegalLayoutIsLost =
    (barrier : Barrier) (list : ListType) (shared : Bool) (id : ResourceId) (sub : Option ℕ) →
    barrier.scope ≡ Texture id sub → is_legal barrier list shared ≡ true → barrier.layout_after ≢ Undefined

-- what a copy list may record, each list may
abbrev pub CopiesAreLegalEverywhere : Type 0
CopiesAreLegalEverywhere =
    (barrier : Barrier) (list : ListType) (shared : Bool) → is_legal barrier Copy shared ≡ true → is_legal barrier list shared ≡ true

-- a barrier covers the pair that stands for a part and a kind exactly where its before side has both
abbrev pub CoversItsPairs : Type 0
CoversItsPairs =
    (barrier : Barrier) (part : Part) (kind : Kind) →
    covers_of barrier (one_sync (name_of_part part)) (one_access (name_of_kind kind)) ≡ before_has barrier part kind
