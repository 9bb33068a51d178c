-- Sets of accesses.
use Rattle.std.proofs.Common.{◌≡◌, ℕ, ◌<◌, ◌^◌, ◌+◌, Bool, true, false, not, ◌==◌, ◌||◌, bit_or, nat_lt, refl, ap, sym, ◌∙◌, arith}
use Rattle.std.proofs.lemmas.Bool.{eqb-true}
use Rattle.std.specs.List.{list_any, list_all}
use Rattle.dx_flags.proofs.Below.{at_below, same, same_is}
use Rattle.dx_flags.proofs.BitTests.{union_has}
use Rattle.dx_flags.proofs.Named.{middle, last, some_item}
use Rattle.dx_flags.specs.declared.accesses.Access.{Access}
use Rattle.dx_flags.specs.Bits.{bit_where}
use Rattle.dx_flags.specs.AccessNames.{AccessName, access_bit, access_names, UNORDERED_ACCESS, SHADER_RESOURCE, CONSTANT_BUFFER, COPY_SOURCE, COPY_DEST, COMMON, NO_ACCESS}
use Rattle.dx_flags.specs.Accesses.{one_access, access_has, is_well_formed_access, may_join_accesses}

-- a test that passes for all names passes for each
pub each_access : (test : AccessName → Bool) → list_all test access_names ≡ true → (name : AccessName) → test name ≡ true
each_access test h UNORDERED_ACCESS = grind (arith, h)
each_access test h SHADER_RESOURCE = grind (arith, h)
each_access test h CONSTANT_BUFFER = grind (arith, h)
each_access test h COPY_SOURCE = grind (arith, h)
each_access test h COPY_DEST = grind (arith, h)
each_access test h COMMON = grind (arith, h)
each_access test h NO_ACCESS = grind (arith, h)

-- a test that passes for each name passes for all
pub all_access : (test : AccessName → Bool) → ((name : AccessName) → test name ≡ true) → list_all test access_names ≡ true
all_access test h = rw (h UNORDERED_ACCESS, h SHADER_RESOURCE, h CONSTANT_BUFFER, h COPY_SOURCE, h COPY_DEST, h COMMON, h NO_ACCESS) refl

-- a test that passes for a name passes for some
pub any_access : (test : AccessName → Bool) (name : AccessName) → test name ≡ true → list_any test access_names ≡ true
any_access test UNORDERED_ACCESS h = grind (arith, h)
any_access test SHADER_RESOURCE h = grind (arith, h)
any_access test CONSTANT_BUFFER h = grind (arith, h)
any_access test COPY_SOURCE h = grind (arith, h)
any_access test COPY_DEST h = grind (arith, h)
any_access test COMMON h = grind (arith, h)
any_access test NO_ACCESS h = grind (arith, h)

-- each name alone is well formed
pub access_single : (name : AccessName) → is_well_formed_access (one_access name) ≡ true
unfolding is_well_formed_access access_has
access_single name = each_access (λ n. is_well_formed_access (one_access n)) refl name

-- a name alone is the only one
pub access_only : (name other : AccessName) → access_has (one_access name) other ≡ (access_bit name == access_bit other)
unfolding access_has
access_only name other =
    let among : AccessName → AccessName → Bool = λ n m. same (access_has (one_access n) m) (access_bit n == access_bit m) in
    same_is _ _ (each_access (among name) (each_access (λ n. list_all (among n) access_names) refl name) other)

-- a union has the names of both
pub access_union : (a b : Access) (name : AccessName) → access_has (record { 0 = bit_or a.0 b.0 }) name ≡ (access_has a name || access_has b name)
unfolding access_has
access_union a b UNORDERED_ACCESS = union_has a.0 b.0 0
access_union a b SHADER_RESOURCE = union_has a.0 b.0 1
access_union a b CONSTANT_BUFFER = union_has a.0 b.0 2
access_union a b COPY_SOURCE = union_has a.0 b.0 3
access_union a b COPY_DEST = union_has a.0 b.0 4
access_union a b COMMON = union_has a.0 b.0 5
access_union a b NO_ACCESS = union_has a.0 b.0 6

-- the bits of a set's names
bits_of : Access → ℕ
unfolding access_has
bits_of set = bit_where (access_has set UNORDERED_ACCESS) 1 + (bit_where (access_has set SHADER_RESOURCE) 2 + (bit_where (access_has set CONSTANT_BUFFER) 4 + (bit_where (access_has set COPY_SOURCE) 8 + (bit_where (access_has set COPY_DEST) 16 + (bit_where (access_has set COMMON) 32 + (bit_where (access_has set NO_ACCESS) 64))))))

are_bits : (n : ℕ) → n < 128 → n ≡ bits_of (record { 0 = n })
unfolding bits_of access_has
are_bits n h = eqb-true _ _ (at_below 128 (λ k. k == bits_of (record { 0 = k })) refl n h)

-- two sets without unknown bits that have the same names are one
pub access_same : (a b : Access) → a.0 < 2 ^ 7 → b.0 < 2 ^ 7 → ((name : AccessName) → access_has a name ≡ access_has b name) → a ≡ b
unfolding bits_of
access_same a b p q h =
    let bits : bits_of a ≡ bits_of b = rw (h UNORDERED_ACCESS, h SHADER_RESOURCE, h CONSTANT_BUFFER, h COPY_SOURCE, h COPY_DEST, h COMMON, h NO_ACCESS) refl in
    ap (λ n. record { 0 = n }) (are_bits a.0 p ∙ bits ∙ sym (are_bits b.0 q))

-- a name of a set may stand beside others, or is the whole set
abbrev stands_well : Access → AccessName → Bool
stands_well set name = (may_join_accesses name || not (access_has set name)) || (set.0 == access_bit name)

-- a well-formed set has a name
pub access_name : (set : Access) → is_well_formed_access set ≡ true → (name : AccessName) × (access_has set name ≡ true)
unfolding is_well_formed_access
access_name set h =
    some_item (access_has set) access_names (middle (nat_lt set.0 128) (list_any (access_has set) access_names) (list_all (stands_well set) access_names) h)

-- a name that stands alone in a well-formed set is the whole set
pub access_alone : (set : Access) (name : AccessName) → is_well_formed_access set ≡ true → may_join_accesses name ≡ false → access_has set name ≡ true → set ≡ one_access name
unfolding is_well_formed_access
access_alone set name h stands there =
    let all : list_all (stands_well set) access_names ≡ true = last (nat_lt set.0 128) (list_any (access_has set) access_names) (list_all (stands_well set) access_names) h in
    let whole : stands_well set name ≡ true = each_access (stands_well set) all name in
    ap (λ n. record { 0 = n }) (eqb-true set.0 (access_bit name) (grind (arith, whole, stands, there)))
