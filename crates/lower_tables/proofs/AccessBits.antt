-- The memory accesses of sets of accesses.
use Rattle.std.proofs.Common.{◌≡◌, Bool, true, ◌&&◌, refl}
use Rattle.std.specs.List.{list_any}
use Rattle.dx_flags.proofs.Named.{both, some_item}
use Rattle.dx_flags.specs.declared.accesses.Access.{Access}
use Rattle.dx_flags.specs.declared.atoms.Kind.{Kind}
use Rattle.dx_flags.specs.declared.atoms.Kind.TheVariants as kind
use Rattle.dx_flags.specs.AccessNames.{AccessName, access_names, UNORDERED_ACCESS, SHADER_RESOURCE, CONSTANT_BUFFER, COPY_SOURCE, COPY_DEST, COMMON, NO_ACCESS}
use Rattle.dx_flags.specs.Accesses.{access_has}
use Rattle.dx_flags.specs.Kinds.{has_kind, is_kind_of, kinds_of_name}
use Rattle.vk_types.proofs.Supported.{among_all}
use Rattle.vk_types.specs.declared.accesses.Access.{Access as VkAccess}
use Rattle.vk_types.specs.declared.accesses.Access.TheVariants.{MemoryRead, MemoryWrite, ShaderStorageRead, ShaderStorageWrite, ShaderRead, UniformRead, TransferRead, TransferWrite, HostRead}
use Rattle.vk_types.specs.declared.accesses.Accesses.{Accesses}
use Rattle.vk_types.specs.Accesses.{has_access}
use Rattle.vk_types.specs.Support.{all_accesses}
use Rattle.vk_types.specs.Whole.{stands_for_access}
use Rattle.std.specs.List.{list_all}
use Rattle.lower_tables.proofs.Marks.{Test, implies, where_first, all_marks, at_marks}
use Rattle.lower_tables.specs.Accesses.{access_of, accesses_of_name, access_bits_of_name}
use Rattle.lower_tables.specs.Made.{is_made_by, is_one_of}
use Rattle.lower_tables.specs.Unions.{united}

-- a set of accesses by its marks
abbrev marked : Bool → Bool → Bool → Bool → Bool → Bool → Bool → AccessName → Bool
marked a b c d e f g UNORDERED_ACCESS = a
marked a b c d e f g SHADER_RESOURCE = b
marked a b c d e f g CONSTANT_BUFFER = c
marked a b c d e f g COPY_SOURCE = d
marked a b c d e f g COPY_DEST = e
marked a b c d e f g COMMON = f
marked a b c d e f g NO_ACCESS = g

-- a test of sets of accesses, by marks
abbrev by_marks : ((AccessName → Bool) → Bool) → Test
by_marks test a b c d e f g = test (marked a b c d e f g)

-- the memory accesses of the set that has some names
abbrev accesses_by : (AccessName → Bool) → Accesses
accesses_by has = record { 0 = united has access_bits_of_name 0 access_names }

-- a test that all sets pass, this one passes
at_set : (test : (AccessName → Bool) → Bool) → all_marks (by_marks test) ≡ true → (s : Access) →
    test (marked (access_has s UNORDERED_ACCESS) (access_has s SHADER_RESOURCE) (access_has s CONSTANT_BUFFER) (access_has s COPY_SOURCE) (access_has s COPY_DEST) (access_has s COMMON) (access_has s NO_ACCESS)) ≡ true
at_set test h s =
    at_marks (by_marks test) h (access_has s UNORDERED_ACCESS) (access_has s SHADER_RESOURCE) (access_has s CONSTANT_BUFFER) (access_has s COPY_SOURCE) (access_has s COPY_DEST) (access_has s COMMON) (access_has s NO_ACCESS)

-- where a set has a kind, its memory accesses stand for each that the kind makes
abbrev takes_kind : Kind → (AccessName → Bool) → Bool
takes_kind kind has =
    implies (list_any (λ name. is_kind_of (kinds_of_name name) kind && has name) access_names)
    (list_all (λ x. implies (is_made_by kind x) (stands_for_access (accesses_by has) x)) all_accesses)

each_takes_kind : (kind : Kind) → all_marks (by_marks (takes_kind kind)) ≡ true
each_takes_kind kind.UnorderedAccess = refl
each_takes_kind kind.ShaderResource = refl
each_takes_kind kind.ConstantBuffer = refl
each_takes_kind kind.CopySource = refl
each_takes_kind kind.CopyDest = refl

takes_each : (kind : Kind) (s : Access) → has_kind kind s ≡ true → list_all (λ x. implies (is_made_by kind x) (stands_for_access (access_of s) x)) all_accesses ≡ true
unfolding has_kind access_of
takes_each kind s h = where_first (has_kind kind s) _ (at_set (takes_kind kind) (each_takes_kind kind) s) h

pub takes_in_kind : (kind : Kind) (s : Access) (x : VkAccess) → has_kind kind s ≡ true → is_made_by kind x ≡ true → stands_for_access (access_of s) x ≡ true
takes_in_kind kind s x h made =
    where_first (is_made_by kind x) (stands_for_access (access_of s) x)
    (among_all (λ y. implies (is_made_by kind y) (stands_for_access (access_of s) y)) x (takes_each kind s h)) made

-- where the memory accesses of a set have one, some access of the set has it
abbrev comes_from : VkAccess → (AccessName → Bool) → Bool
comes_from x has = implies (has_access (accesses_by has) x) (list_any (λ name. is_one_of (accesses_of_name name) x && has name) access_names)

each_comes_from : (x : VkAccess) → all_marks (by_marks (comes_from x)) ≡ true
each_comes_from MemoryRead = refl
each_comes_from MemoryWrite = refl
each_comes_from ShaderStorageRead = refl
each_comes_from ShaderStorageWrite = refl
each_comes_from ShaderRead = refl
each_comes_from UniformRead = refl
each_comes_from TransferRead = refl
each_comes_from TransferWrite = refl
each_comes_from HostRead = refl

-- such an access
pub record Origin (s : Access) (x : VkAccess) : Type 0 where
  pub name : AccessName
  pub there : access_has s name ≡ true
  pub lowered : is_one_of (accesses_of_name name) x ≡ true

from_some : (s : Access) (x : VkAccess) → has_access (access_of s) x ≡ true → list_any (λ name. is_one_of (accesses_of_name name) x && access_has s name) access_names ≡ true
unfolding access_of
from_some s x h = where_first (has_access (access_of s) x) _ (at_set (comes_from x) (each_comes_from x) s) h

pub origin : (s : Access) (x : VkAccess) → has_access (access_of s) x ≡ true → Origin s x
origin s x h =
    let found : (name : AccessName) × ((is_one_of (accesses_of_name name) x && access_has s name) ≡ true) = some_item (λ name. is_one_of (accesses_of_name name) x && access_has s name) access_names (from_some s x h) in
    let parts = both (is_one_of (accesses_of_name found.0) x) (access_has s found.0) found.1 in
    record { name = found.0; there = parts.1; lowered = parts.0 }
