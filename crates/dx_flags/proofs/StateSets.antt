-- Sets of states.
use Rattle.std.proofs.Common.{◌≡◌, ℕ, ◌<◌, ◌^◌, ◌+◌, Bool, true, false, not, ◌==◌, ◌||◌, bit_or, nat_lt, refl, ap, sym, ◌∙◌, arith}
use Rattle.std.proofs.lemmas.Bool.{eqb-true}
use Rattle.std.specs.List.{list_any, list_all}
use Rattle.dx_flags.proofs.Below.{at_below, same, same_is}
use Rattle.dx_flags.proofs.BitTests.{union_has}
use Rattle.dx_flags.proofs.Named.{middle, last, some_item}
use Rattle.dx_flags.specs.declared.states.State.{State}
use Rattle.dx_flags.specs.declared.states.TheConstants.State.{GENERIC_READ}
use Rattle.dx_flags.specs.Bits.{bit_where}
use Rattle.dx_flags.specs.StateNames.{StateName, state_bit, state_names, COMMON, VERTEX_AND_CONSTANT_BUFFER, NON_PIXEL_SHADER_RESOURCE, PIXEL_SHADER_RESOURCE, COPY_SOURCE, COPY_DEST, UNORDERED_ACCESS}
use Rattle.dx_flags.specs.States.{one_state, state_has, is_valid, is_read}

-- a test that passes for all names passes for each
pub each_state : (test : StateName → Bool) → list_all test state_names ≡ true → (name : StateName) → test name ≡ true
each_state test h COMMON = grind (arith, h)
each_state test h VERTEX_AND_CONSTANT_BUFFER = grind (arith, h)
each_state test h NON_PIXEL_SHADER_RESOURCE = grind (arith, h)
each_state test h PIXEL_SHADER_RESOURCE = grind (arith, h)
each_state test h COPY_SOURCE = grind (arith, h)
each_state test h COPY_DEST = grind (arith, h)
each_state test h UNORDERED_ACCESS = grind (arith, h)

-- a test that passes for each name passes for all
pub all_state : (test : StateName → Bool) → ((name : StateName) → test name ≡ true) → list_all test state_names ≡ true
all_state test h = rw (h COMMON, h VERTEX_AND_CONSTANT_BUFFER, h NON_PIXEL_SHADER_RESOURCE, h PIXEL_SHADER_RESOURCE, h COPY_SOURCE, h COPY_DEST, h UNORDERED_ACCESS) refl

-- a test that passes for a name passes for some
pub any_state : (test : StateName → Bool) (name : StateName) → test name ≡ true → list_any test state_names ≡ true
any_state test COMMON h = grind (arith, h)
any_state test VERTEX_AND_CONSTANT_BUFFER h = grind (arith, h)
any_state test NON_PIXEL_SHADER_RESOURCE h = grind (arith, h)
any_state test PIXEL_SHADER_RESOURCE h = grind (arith, h)
any_state test COPY_SOURCE h = grind (arith, h)
any_state test COPY_DEST h = grind (arith, h)
any_state test UNORDERED_ACCESS h = grind (arith, h)

-- each name alone is well formed
pub state_single : (name : StateName) → is_valid (one_state name) ≡ true
unfolding is_valid state_has
state_single name = each_state (λ n. is_valid (one_state n)) refl name

-- a name alone is the only one
pub state_only : (name other : StateName) → state_has (one_state name) other ≡ (state_bit name == state_bit other)
unfolding state_has
state_only name other =
    let among : StateName → StateName → Bool = λ n m. same (state_has (one_state n) m) (state_bit n == state_bit m) in
    same_is _ _ (each_state (among name) (each_state (λ n. list_all (among n) state_names) refl name) other)

-- a union has the names of both
pub state_union : (a b : State) (name : StateName) → state_has (record { 0 = bit_or a.0 b.0 }) name ≡ (state_has a name || state_has b name)
unfolding state_has
state_union a b COMMON = union_has a.0 b.0 0
state_union a b VERTEX_AND_CONSTANT_BUFFER = union_has a.0 b.0 1
state_union a b NON_PIXEL_SHADER_RESOURCE = union_has a.0 b.0 2
state_union a b PIXEL_SHADER_RESOURCE = union_has a.0 b.0 3
state_union a b COPY_SOURCE = union_has a.0 b.0 4
state_union a b COPY_DEST = union_has a.0 b.0 5
state_union a b UNORDERED_ACCESS = union_has a.0 b.0 6

-- the bits of a set's names
bits_of : State → ℕ
unfolding state_has
bits_of set = bit_where (state_has set COMMON) 1 + (bit_where (state_has set VERTEX_AND_CONSTANT_BUFFER) 2 + (bit_where (state_has set NON_PIXEL_SHADER_RESOURCE) 4 + (bit_where (state_has set PIXEL_SHADER_RESOURCE) 8 + (bit_where (state_has set COPY_SOURCE) 16 + (bit_where (state_has set COPY_DEST) 32 + (bit_where (state_has set UNORDERED_ACCESS) 64))))))

are_bits : (n : ℕ) → n < 128 → n ≡ bits_of (record { 0 = n })
unfolding bits_of state_has
are_bits n h = eqb-true _ _ (at_below 128 (λ k. k == bits_of (record { 0 = k })) refl n h)

-- two sets without unknown bits that have the same names are one
pub state_same : (a b : State) → a.0 < 2 ^ 7 → b.0 < 2 ^ 7 → ((name : StateName) → state_has a name ≡ state_has b name) → a ≡ b
unfolding bits_of
state_same a b p q h =
    let bits : bits_of a ≡ bits_of b = rw (h COMMON, h VERTEX_AND_CONSTANT_BUFFER, h NON_PIXEL_SHADER_RESOURCE, h PIXEL_SHADER_RESOURCE, h COPY_SOURCE, h COPY_DEST, h UNORDERED_ACCESS) refl in
    ap (λ n. record { 0 = n }) (are_bits a.0 p ∙ bits ∙ sym (are_bits b.0 q))

-- a name of a set may stand beside others, or is the whole set
abbrev stands_well : State → StateName → Bool
stands_well set name = (is_read name || not (state_has set name)) || (set.0 == state_bit name)

-- a well-formed set has a name
pub state_name : (set : State) → is_valid set ≡ true → (name : StateName) × (state_has set name ≡ true)
unfolding is_valid
state_name set h =
    some_item (state_has set) state_names (middle (nat_lt set.0 128) (list_any (state_has set) state_names) (list_all (stands_well set) state_names) h)

-- a name that stands alone in a well-formed set is the whole set
pub state_alone : (set : State) (name : StateName) → is_valid set ≡ true → is_read name ≡ false → state_has set name ≡ true → set ≡ one_state name
unfolding is_valid
state_alone set name h stands there =
    let all : list_all (stands_well set) state_names ≡ true = last (nat_lt set.0 128) (list_any (state_has set) state_names) (list_all (stands_well set) state_names) h in
    let whole : stands_well set name ≡ true = each_state (stands_well set) all name in
    ap (λ n. record { 0 = n }) (eqb-true set.0 (state_bit name) (grind (arith, whole, stands, there)))

-- the names of GENERIC_READ are the read states
pub generic_reads : (name : StateName) → state_has GENERIC_READ name ≡ is_read name
unfolding state_has
generic_reads name = same_is _ _ (each_state (λ n. same (state_has GENERIC_READ n) (is_read n)) refl name)
