-- Parts of parts, and kinds of kinds.
use Rattle.std.proofs.Common.{◌≡◌, ℕ, ◌+◌, Bool, true, false, Some, refl, arith, ap, ◌<◌, ◌≤◌, ◌==◌}
use Rattle.std.proofs.lemmas.Bool.{eqb-true}
use Rattle.dx_flags.proofs.Below.{at_below}
use Rattle.dx_flags.specs.declared.atoms.Kind.{Kind}
use Rattle.dx_flags.specs.declared.atoms.Kind.TheVariants.{UnorderedAccess, ShaderResource, ConstantBuffer, CopySource, CopyDest}
use Rattle.dx_flags.specs.declared.atoms.Part.{Part}
use Rattle.dx_flags.specs.declared.atoms.Part.TheVariants.{Copy, Compute, Clear}
use Rattle.dx_flags.specs.declared.layouts.Layout.{Layout}
use Rattle.dx_flags.specs.declared.layouts.Layout.TheVariants as layout
use Rattle.dx_flags.specs.declared.syncs.Sync.{Sync}
use Rattle.dx_flags.specs.declared.accesses.Access.{Access}
use Rattle.dx_flags.specs.AccessNames.{COMMON, NO_ACCESS}
use Rattle.dx_flags.specs.Accesses.{one_access, access_has}
use Rattle.dx_flags.specs.Kinds.{name_of_kind, has_kind, kind_of, kinds_of}
use Rattle.dx_flags.specs.Layouts.{allows}
use Rattle.dx_flags.specs.Bits.{bit_where}
use Rattle.dx_flags.specs.Parts.{name_of_part, part_of, has_part, parts_of}
use Rattle.dx_flags.specs.Syncs.{one_sync, sync_has}

-- each part stands for itself
pub part_itself : (part : Part) → part_of (one_sync (name_of_part part)) ≡ Some part
unfolding part_of
part_itself Copy = refl
part_itself Compute = refl
part_itself Clear = refl

-- each kind stands for itself
pub kind_itself : (kind : Kind) → kind_of (one_access (name_of_kind kind)) ≡ Some kind
unfolding kind_of
kind_itself UnorderedAccess = refl
kind_itself ShaderResource = refl
kind_itself ConstantBuffer = refl
kind_itself CopySource = refl
kind_itself CopyDest = refl

-- no layout allows COMMON
pub common_nowhere : (l : Layout) (shared : Bool) → allows l (one_access COMMON) shared ≡ false
unfolding allows has_kind access_has
common_nowhere layout.Undefined shared = refl
common_nowhere layout.Common true = refl
common_nowhere layout.Common false = refl
common_nowhere layout.GenericRead shared = refl
common_nowhere layout.UnorderedAccess shared = refl
common_nowhere layout.ShaderResource shared = refl
common_nowhere layout.CopySource shared = refl
common_nowhere layout.CopyDest shared = refl

-- each layout allows NO_ACCESS
pub none_everywhere : (l : Layout) (shared : Bool) → allows l (one_access NO_ACCESS) shared ≡ true
unfolding allows has_kind access_has
none_everywhere layout.Undefined shared = refl
none_everywhere layout.Common true = refl
none_everywhere layout.Common false = refl
none_everywhere layout.GenericRead shared = refl
none_everywhere layout.UnorderedAccess shared = refl
none_everywhere layout.ShaderResource shared = refl
none_everywhere layout.CopySource shared = refl
none_everywhere layout.CopyDest shared = refl

-- a sync with part COMPUTE has part CLEAR
computes_clears : (s : Sync) → has_part Compute s ≡ true → has_part Clear s ≡ true
unfolding has_part
computes_clears s h = grind (arith, h)

clash : false ≡ true → ⊥
clash h = cc

-- the bits of parts
part_bits : Bool → Bool → Bool → ℕ
part_bits copy compute clear = bit_where copy 32 + (bit_where compute 4 + bit_where clear 64)

parts_twice : (copy compute clear : Bool) → (compute ≡ true → clear ≡ true) → parts_of (record { 0 = part_bits copy compute clear }) ≡ record { 0 = part_bits copy compute clear }
unfolding parts_of has_part sync_has part_bits
parts_twice true true true h = refl
parts_twice true true false h = absurd (clash (h refl))
parts_twice true false true h = refl
parts_twice true false false h = refl
parts_twice false true true h = refl
parts_twice false true false h = absurd (clash (h refl))
parts_twice false false true h = refl
parts_twice false false false h = refl

-- the parts of parts are these parts
pub parts_stay : (s : Sync) → parts_of (parts_of s) ≡ parts_of s
unfolding parts_of part_bits
parts_stay s = parts_twice (has_part Copy s) (has_part Compute s) (has_part Clear s) (computes_clears s)

kinds_twice : (n : ℕ) → n < 32 → kinds_of (record { 0 = n }) ≡ record { 0 = n }
unfolding kinds_of has_kind access_has
kinds_twice n h = ap (λ k. record { 0 = k }) (eqb-true _ _ (at_below 32 (λ k. (kinds_of (record { 0 = k })).0 == k) refl n h))

below : (b : Bool) (n : ℕ) → bit_where b n ≤ n
below true n = omega arith
below false n = omega arith

-- the kinds of kinds are these kinds
pub kinds_stay : (a : Access) → kinds_of (kinds_of a) ≡ kinds_of a
unfolding kinds_of
kinds_stay a = kinds_twice _ (omega (arith, below (has_kind UnorderedAccess a) 1, below (has_kind ShaderResource a) 2, below (has_kind ConstantBuffer a) 4, below (has_kind CopySource a) 8, below (has_kind CopyDest a) 16))
