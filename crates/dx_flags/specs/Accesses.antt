-- What sets of accesses have, and which of them are well formed.
use Rattle.std.specs.Prelude.{Bool, true, false, not, nat_lt, bit_and, ◌==◌, ◌&&◌, ◌||◌, ◌^◌}
use Rattle.std.specs.List.{list_any, list_all}
use Rattle.dx_flags.specs.declared.accesses.Access.{Access}
use Rattle.dx_flags.specs.AccessNames.{AccessName, access_bit, access_names, UNORDERED_ACCESS, SHADER_RESOURCE, CONSTANT_BUFFER, COPY_SOURCE, COPY_DEST, COMMON, NO_ACCESS}

-- the set of one access
abbrev pub one_access : AccessName → Access
one_access name = record { 0 = access_bit name }

-- a set has a name
unfoldable pub access_has : Access → AccessName → Bool
access_has access name = bit_and access.0 (access_bit name) == access_bit name

-- an access may stand beside others in a set
abbrev pub may_join_accesses : AccessName → Bool
may_join_accesses UNORDERED_ACCESS = true
may_join_accesses SHADER_RESOURCE = true
may_join_accesses CONSTANT_BUFFER = true
may_join_accesses COPY_SOURCE = true
may_join_accesses COPY_DEST = true
may_join_accesses COMMON = false
may_join_accesses NO_ACCESS = false

-- a set is well formed: it has a name and no unknown bit, and a name that stands alone is the whole set
unfoldable pub is_well_formed_access : Access → Bool
is_well_formed_access access =
    nat_lt access.0 (2 ^ 7)
    && (list_any (access_has access) access_names
    && list_all (λ name. (may_join_accesses name || not (access_has access name)) || (access.0 == access_bit name)) access_names)
