-- Sets of syncs.
use Rattle.std.proofs.Common.{◌≡◌, ℕ, ◌<◌, ◌^◌, ◌+◌, Bool, true, false, not, ◌==◌, ◌||◌, bit_or, nat_lt, refl, ap, sym, ◌∙◌, arith}
use Rattle.std.proofs.lemmas.Bool.{eqb-true}
use Rattle.std.specs.List.{list_any, list_all}
use Rattle.dx_flags.proofs.Below.{at_below, same, same_is}
use Rattle.dx_flags.proofs.BitTests.{union_has}
use Rattle.dx_flags.proofs.Named.{middle, last, some_item}
use Rattle.dx_flags.specs.declared.syncs.Sync.{Sync}
use Rattle.dx_flags.specs.Bits.{bit_where}
use Rattle.dx_flags.specs.SyncNames.{SyncName, sync_bit, sync_names, NONE, ALL, COMPUTE_SHADING, ALL_SHADING, NON_PIXEL_SHADING, COPY, CLEAR_UNORDERED_ACCESS_VIEW}
use Rattle.dx_flags.specs.Syncs.{one_sync, sync_has, is_well_formed_sync, may_join_syncs}

-- a test that passes for all names passes for each
pub each_sync : (test : SyncName → Bool) → list_all test sync_names ≡ true → (name : SyncName) → test name ≡ true
each_sync test h NONE = grind (arith, h)
each_sync test h ALL = grind (arith, h)
each_sync test h COMPUTE_SHADING = grind (arith, h)
each_sync test h ALL_SHADING = grind (arith, h)
each_sync test h NON_PIXEL_SHADING = grind (arith, h)
each_sync test h COPY = grind (arith, h)
each_sync test h CLEAR_UNORDERED_ACCESS_VIEW = grind (arith, h)

-- a test that passes for each name passes for all
pub all_sync : (test : SyncName → Bool) → ((name : SyncName) → test name ≡ true) → list_all test sync_names ≡ true
all_sync test h = rw (h NONE, h ALL, h COMPUTE_SHADING, h ALL_SHADING, h NON_PIXEL_SHADING, h COPY, h CLEAR_UNORDERED_ACCESS_VIEW) refl

-- a test that passes for a name passes for some
pub any_sync : (test : SyncName → Bool) (name : SyncName) → test name ≡ true → list_any test sync_names ≡ true
any_sync test NONE h = grind (arith, h)
any_sync test ALL h = grind (arith, h)
any_sync test COMPUTE_SHADING h = grind (arith, h)
any_sync test ALL_SHADING h = grind (arith, h)
any_sync test NON_PIXEL_SHADING h = grind (arith, h)
any_sync test COPY h = grind (arith, h)
any_sync test CLEAR_UNORDERED_ACCESS_VIEW h = grind (arith, h)

-- each name alone is well formed
pub sync_single : (name : SyncName) → is_well_formed_sync (one_sync name) ≡ true
unfolding is_well_formed_sync sync_has
sync_single name = each_sync (λ n. is_well_formed_sync (one_sync n)) refl name

-- a name alone is the only one
pub sync_only : (name other : SyncName) → sync_has (one_sync name) other ≡ (sync_bit name == sync_bit other)
unfolding sync_has
sync_only name other =
    let among : SyncName → SyncName → Bool = λ n m. same (sync_has (one_sync n) m) (sync_bit n == sync_bit m) in
    same_is _ _ (each_sync (among name) (each_sync (λ n. list_all (among n) sync_names) refl name) other)

-- a union has the names of both
pub sync_union : (a b : Sync) (name : SyncName) → sync_has (record { 0 = bit_or a.0 b.0 }) name ≡ (sync_has a name || sync_has b name)
unfolding sync_has
sync_union a b NONE = union_has a.0 b.0 0
sync_union a b ALL = union_has a.0 b.0 1
sync_union a b COMPUTE_SHADING = union_has a.0 b.0 2
sync_union a b ALL_SHADING = union_has a.0 b.0 3
sync_union a b NON_PIXEL_SHADING = union_has a.0 b.0 4
sync_union a b COPY = union_has a.0 b.0 5
sync_union a b CLEAR_UNORDERED_ACCESS_VIEW = union_has a.0 b.0 6

-- the bits of a set's names
bits_of : Sync → ℕ
unfolding sync_has
bits_of set = bit_where (sync_has set NONE) 1 + (bit_where (sync_has set ALL) 2 + (bit_where (sync_has set COMPUTE_SHADING) 4 + (bit_where (sync_has set ALL_SHADING) 8 + (bit_where (sync_has set NON_PIXEL_SHADING) 16 + (bit_where (sync_has set COPY) 32 + (bit_where (sync_has set CLEAR_UNORDERED_ACCESS_VIEW) 64))))))

are_bits : (n : ℕ) → n < 128 → n ≡ bits_of (record { 0 = n })
unfolding bits_of sync_has
are_bits n h = eqb-true _ _ (at_below 128 (λ k. k == bits_of (record { 0 = k })) refl n h)

-- two sets without unknown bits that have the same names are one
pub sync_same : (a b : Sync) → a.0 < 2 ^ 7 → b.0 < 2 ^ 7 → ((name : SyncName) → sync_has a name ≡ sync_has b name) → a ≡ b
unfolding bits_of
sync_same a b p q h =
    let bits : bits_of a ≡ bits_of b = rw (h NONE, h ALL, h COMPUTE_SHADING, h ALL_SHADING, h NON_PIXEL_SHADING, h COPY, h CLEAR_UNORDERED_ACCESS_VIEW) refl in
    ap (λ n. record { 0 = n }) (are_bits a.0 p ∙ bits ∙ sym (are_bits b.0 q))

-- a name of a set may stand beside others, or is the whole set
abbrev stands_well : Sync → SyncName → Bool
stands_well set name = (may_join_syncs name || not (sync_has set name)) || (set.0 == sync_bit name)

-- a well-formed set has a name
pub sync_name : (set : Sync) → is_well_formed_sync set ≡ true → (name : SyncName) × (sync_has set name ≡ true)
unfolding is_well_formed_sync
sync_name set h =
    some_item (sync_has set) sync_names (middle (nat_lt set.0 128) (list_any (sync_has set) sync_names) (list_all (stands_well set) sync_names) h)

-- a name that stands alone in a well-formed set is the whole set
pub sync_alone : (set : Sync) (name : SyncName) → is_well_formed_sync set ≡ true → may_join_syncs name ≡ false → sync_has set name ≡ true → set ≡ one_sync name
unfolding is_well_formed_sync
sync_alone set name h stands there =
    let all : list_all (stands_well set) sync_names ≡ true = last (nat_lt set.0 128) (list_any (sync_has set) sync_names) (list_all (stands_well set) sync_names) h in
    let whole : stands_well set name ≡ true = each_sync (stands_well set) all name in
    ap (λ n. record { 0 = n }) (eqb-true set.0 (sync_bit name) (grind (arith, whole, stands, there)))
