-- The parts of what makes a barrier legal.
use Rattle.std.proofs.Common.{◌≡◌, ◌≢◌, ◌↔◌, ℕ, Bool, true, not, ◌&&◌, ◌||◌, Option, arith, refl, subst, ap}
use Rattle.dx_base.specs.declared.ids.ResourceId.{ResourceId}
use Rattle.dx_base.specs.declared.kinds.ListType.{ListType}
use Rattle.dx_base.specs.declared.kinds.ListType.TheVariants.{Direct, Compute, Copy}
use Rattle.dx_flags.proofs.Named.{both}
use Rattle.dx_flags.specs.declared.layouts.Layout.{Layout}
use Rattle.dx_flags.specs.declared.layouts.Layout.TheVariants.{Undefined}
use Rattle.dx_flags.specs.declared.syncs.Sync.{Sync}
use Rattle.dx_flags.specs.declared.accesses.Access.{Access}
use Rattle.dx_flags.specs.Accesses.{is_well_formed_access}
use Rattle.dx_flags.specs.Fits.{fits_of}
use Rattle.dx_flags.specs.Syncs.{is_well_formed_sync}
use Rattle.enhanced_barriers.specs.declared.barriers.Barrier.{Barrier}
use Rattle.enhanced_barriers.specs.declared.barriers.Scope.TheVariants.{Texture}
use Rattle.enhanced_barriers.specs.Laws.{IsLegal}
use Rattle.enhanced_barriers.specs.Legal.{is_side, suits_list, suits_layouts, is_undefined, layout_takes, is_legal}

-- the parts of a side
side_parts : (s : Sync) (a : Access) → is_side s a ≡ true →
    (is_well_formed_sync s ≡ true) × (is_well_formed_access a ≡ true) × (fits_of s a ≡ true)
unfolding is_side
side_parts s a h =
    let first = both (is_well_formed_sync s) (is_well_formed_access a && fits_of s a) h in
    let second = both (is_well_formed_access a) (fits_of s a) first.1 in
    (first.0, second.0, second.1)

-- the two sides, the list and the layouts
legal_parts : (b : Barrier) (l : ListType) (shared : Bool) → is_legal b l shared ≡ true →
    (is_side b.sync_before b.access_before ≡ true) × (is_side b.sync_after b.access_after ≡ true) × (suits_list b l ≡ true) × (suits_layouts b.scope b shared ≡ true)
unfolding is_legal
legal_parts b l shared h =
    let sides = is_side b.sync_before b.access_before && is_side b.sync_after b.access_after in
    let halves = both sides (suits_list b l && suits_layouts b.scope b shared) h in
    let two = both (is_side b.sync_before b.access_before) (is_side b.sync_after b.access_after) halves.0 in
    let rest = both (suits_list b l) (suits_layouts b.scope b shared) halves.1 in
    (two.0, two.1, rest.0, rest.1)

from_legal : (b : Barrier) (l : ListType) (shared : Bool) → is_legal b l shared ≡ true → IsLegal b l shared
from_legal b l shared h =
    let parts = legal_parts b l shared h in
    let before = side_parts b.sync_before b.access_before parts.0 in
    let after = side_parts b.sync_after b.access_after parts.1 in
    record {
      sync_before = before.0;
      access_before = before.1;
      fits_before = before.2;
      sync_after = after.0;
      access_after = after.1;
      fits_after = after.2;
      on_list = parts.2;
      of_layouts = parts.3;
    }

to_legal : (b : Barrier) (l : ListType) (shared : Bool) → IsLegal b l shared → is_legal b l shared ≡ true
unfolding is_legal is_side
to_legal b l shared h =
    rw (h.sync_before, h.access_before, h.fits_before, h.sync_after, h.access_after, h.fits_after, h.on_list, h.of_layouts) refl

-- a barrier is legal exactly where all of it holds
pub legal_means : (b : Barrier) (l : ListType) (shared : Bool) → (is_legal b l shared ≡ true) ↔ IsLegal b l shared
legal_means b l shared = (from_legal b l shared, to_legal b l shared)

-- a layout that is not UNDEFINED
is_known : (layout : Layout) → not (is_undefined layout) ≡ true → layout ≢ Undefined
is_known layout h lost = let undefined : is_undefined layout ≡ true = ap is_undefined lost in grind (arith, h, undefined)

known : (b : Barrier) (shared : Bool) (id : ResourceId) (sub : Option ℕ) → suits_layouts (Texture id sub) b shared ≡ true → b.layout_after ≢ Undefined
known b shared id sub h =
    let rest = layout_takes b.layout_after b.access_after shared && (is_undefined b.layout_before || layout_takes b.layout_before b.access_before shared) in
    is_known b.layout_after (both (not (is_undefined b.layout_after)) rest h).0

-- the layout after of a legal barrier of a texture is not UNDEFINED
pub known_after : (b : Barrier) (l : ListType) (shared : Bool) (id : ResourceId) (sub : Option ℕ) →
    b.scope ≡ Texture id sub → is_legal b l shared ≡ true → b.layout_after ≢ Undefined
known_after b l shared id sub is h = known b shared id sub (subst (λ s. suits_layouts s b shared ≡ true) is (from_legal b l shared h).of_layouts)

any_list : (b : Barrier) (l : ListType) → suits_list b Copy ≡ true → suits_list b l ≡ true
any_list b Direct h = refl
any_list b Compute h = refl
any_list b Copy h = h

-- what a copy list may record, each list may
pub legal_everywhere : (b : Barrier) (l : ListType) (shared : Bool) → is_legal b Copy shared ≡ true → is_legal b l shared ≡ true
legal_everywhere b l shared h =
    let parts = from_legal b Copy shared h in
    to_legal b l shared (record {
      sync_before = parts.sync_before;
      access_before = parts.access_before;
      fits_before = parts.fits_before;
      sync_after = parts.sync_after;
      access_after = parts.access_after;
      fits_after = parts.fits_after;
      on_list = any_list b l parts.on_list;
      of_layouts = parts.of_layouts;
    })
