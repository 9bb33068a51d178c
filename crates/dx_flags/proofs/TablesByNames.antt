-- What the tables say of sets, by the names of the sets.
use Rattle.std.proofs.Common.{◌≡◌, ◌↔◌, Bool, true, false, not, ◌&&◌, ◌||◌, refl, arith}
use Rattle.dx_flags.proofs.AccessSets.{any_access, each_access, all_access}
use Rattle.dx_flags.proofs.Named.{both, and_both, some_item, each_kind, all_kind}
use Rattle.dx_flags.proofs.SyncSets.{any_sync}
use Rattle.dx_flags.specs.declared.atoms.Kind.{Kind}
use Rattle.dx_flags.specs.declared.atoms.Part.{Part}
use Rattle.dx_flags.specs.declared.layouts.Layout.{Layout}
use Rattle.dx_flags.specs.declared.syncs.Sync.{Sync}
use Rattle.dx_flags.specs.declared.accesses.Access.{Access}
use Rattle.dx_flags.specs.AccessNames.{AccessName, access_names}
use Rattle.dx_flags.specs.Accesses.{access_has}
use Rattle.dx_flags.specs.Fits.{accesses_of_name, is_access_of, fits_some, fits_of}
use Rattle.dx_flags.specs.Kinds.{kinds_of_name, is_kind_of, has_kind}
use Rattle.dx_flags.specs.Layouts.{layout_allows, allows}
use Rattle.dx_flags.specs.Parts.{parts_of_name, is_part_of, has_part}
use Rattle.dx_flags.specs.SyncNames.{SyncName, sync_names}
use Rattle.dx_flags.specs.Syncs.{sync_has}

-- a name that passes both of two tests
swapped : {X : Type 0} (p q : X → Bool) → (x : X) × ((p x && q x) ≡ true) → (x : X) × ((q x ≡ true) × (p x ≡ true))
swapped p q found = let passed = both (p found.0) (q found.0) found.1 in (found.0, (passed.1, passed.0))

-- a set has a part exactly where one of its syncs has it
pub part_by_names : (part : Part) (sync : Sync) →
    (has_part part sync ≡ true) ↔ ((name : SyncName) × ((sync_has sync name ≡ true) × (is_part_of (parts_of_name name) part ≡ true)))
unfolding has_part
part_by_names part sync =
    let of_name : SyncName → Bool = λ name. is_part_of (parts_of_name name) part in (
      λ h. swapped of_name (sync_has sync) (some_item (λ name. of_name name && sync_has sync name) sync_names h),
      λ found. any_sync (λ name. of_name name && sync_has sync name) found.0 (and_both (of_name found.0) (sync_has sync found.0) found.1.1 found.1.0),
    )

-- a set has a kind exactly where one of its accesses has it
pub kind_by_names : (kind : Kind) (access : Access) →
    (has_kind kind access ≡ true) ↔ ((name : AccessName) × ((access_has access name ≡ true) × (is_kind_of (kinds_of_name name) kind ≡ true)))
unfolding has_kind
kind_by_names kind access =
    let of_name : AccessName → Bool = λ name. is_kind_of (kinds_of_name name) kind in (
      λ h. swapped of_name (access_has access) (some_item (λ name. of_name name && access_has access name) access_names h),
      λ found. any_access (λ name. of_name name && access_has access name) found.0 (and_both (of_name found.0) (access_has access found.0) found.1.1 found.1.0),
    )

-- an access fits a set exactly where it fits one of its syncs
pub fit_some : (sync : Sync) (one : AccessName) →
    (fits_some sync one ≡ true) ↔ ((name : SyncName) × ((sync_has sync name ≡ true) × (is_access_of (accesses_of_name name) one ≡ true)))
unfolding fits_some
fit_some sync one =
    let of_name : SyncName → Bool = λ name. is_access_of (accesses_of_name name) one in (
      λ h. swapped of_name (sync_has sync) (some_item (λ name. of_name name && sync_has sync name) sync_names h),
      λ found. any_sync (λ name. of_name name && sync_has sync name) found.0 (and_both (of_name found.0) (sync_has sync found.0) found.1.1 found.1.0),
    )

-- a test that holds where another does
from_or : (a b : Bool) → (a || not b) ≡ true → b ≡ true → a ≡ true
from_or a b h there = grind (arith, h, there)

to_or : (a b : Bool) → (b ≡ true → a ≡ true) → (a || not b) ≡ true
to_or a true h = rw (h refl) refl
to_or true false h = refl
to_or false false h = refl

-- accesses fit syncs exactly where each fits one of them
pub fit_by_names : (sync : Sync) (access : Access) →
    (fits_of sync access ≡ true)
    ↔ ((one : AccessName) → access_has access one ≡ true → (name : SyncName) × ((sync_has sync name ≡ true) × (is_access_of (accesses_of_name name) one ≡ true)))
unfolding fits_of
fit_by_names sync access =
    let test : AccessName → Bool = λ one. fits_some sync one || not (access_has access one) in (
      λ h one there. (fit_some sync one).0 (from_or (fits_some sync one) (access_has access one) (each_access test h one) there),
      λ each. all_access test (λ one. to_or (fits_some sync one) (access_has access one) (λ there. (fit_some sync one).1 (each one there))),
    )

-- a layout allows a set exactly where it allows each of its kinds
pub allowed_by_kinds : (layout : Layout) (access : Access) (shared : Bool) →
    (allows layout access shared ≡ true) ↔ ((kind : Kind) → has_kind kind access ≡ true → layout_allows layout kind shared ≡ true)
unfolding allows
allowed_by_kinds layout access shared =
    let test : Kind → Bool = λ kind. layout_allows layout kind shared || not (has_kind kind access) in (
      λ h kind there. from_or (layout_allows layout kind shared) (has_kind kind access) (each_kind test h kind) there,
      λ each. all_kind test (λ kind. to_or (layout_allows layout kind shared) (has_kind kind access) (each kind)),
    )
