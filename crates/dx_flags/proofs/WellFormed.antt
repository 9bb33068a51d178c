-- Well-formed sets by their bits.
use Rattle.std.proofs.Common.{◌≡◌, ℕ, ◌<◌, ◌≤◌, Bool, not, ◌&&◌, ◌||◌, ◌==◌, bit_and, arith, refl, sym, inl, inr}
use Rattle.std.proofs.lemmas.Bool.{cases_lt}
use Rattle.std.proofs.Math.Bool.{and-false}
use Rattle.dx_flags.specs.declared.syncs.Sync.{Sync}
use Rattle.dx_flags.specs.declared.accesses.Access.{Access}
use Rattle.dx_flags.specs.declared.states.State.{State}
use Rattle.dx_flags.specs.Syncs.{is_well_formed_sync, sync_has}
use Rattle.dx_flags.specs.Accesses.{is_well_formed_access, access_has}
use Rattle.dx_flags.specs.States.{is_valid, state_has}
use Rattle.dx_flags.proofs.Below.{at_below, same, same_is, not_below, is_other, not_inside}

-- NONE or ALL alone, or some of the others
abbrev pub sync_bits : ℕ → Bool
sync_bits n = ((n == 1) || (n == 2)) || (not (n == 0) && (bit_and 124 n == n))

small_sync : (n : ℕ) → n < 128 → is_well_formed_sync (record { 0 = n }) ≡ sync_bits n
unfolding is_well_formed_sync sync_has
small_sync n h = same_is _ _ (at_below 128 (λ k. same (is_well_formed_sync (record { 0 = k })) (sync_bits k)) refl n h)

large_sync : (n : ℕ) → 128 ≤ n → is_well_formed_sync (record { 0 = n }) ≡ sync_bits n
unfolding is_well_formed_sync
large_sync n h =
    rw (not_below n 128 h, is_other n 1 (omega (arith, h)), is_other n 2 (omega (arith, h)), not_inside 124 n (omega (arith, h)))
    (sym (and-false (not (n == 0))))

pub sync_by_bits : (s : Sync) → is_well_formed_sync s ≡ sync_bits s.0
sync_by_bits s = elim (cases_lt s.0 128) [ inl h ↦ small_sync s.0 h | inr h ↦ large_sync s.0 h ]

-- COMMON or NO_ACCESS alone, or some of the others
abbrev pub access_bits : ℕ → Bool
access_bits n = ((n == 32) || (n == 64)) || (not (n == 0) && (bit_and 31 n == n))

small_access : (n : ℕ) → n < 128 → is_well_formed_access (record { 0 = n }) ≡ access_bits n
unfolding is_well_formed_access access_has
small_access n h = same_is _ _ (at_below 128 (λ k. same (is_well_formed_access (record { 0 = k })) (access_bits k)) refl n h)

large_access : (n : ℕ) → 128 ≤ n → is_well_formed_access (record { 0 = n }) ≡ access_bits n
unfolding is_well_formed_access
large_access n h =
    rw (not_below n 128 h, is_other n 32 (omega (arith, h)), is_other n 64 (omega (arith, h)), not_inside 31 n (omega (arith, h)))
    (sym (and-false (not (n == 0))))

pub access_by_bits : (a : Access) → is_well_formed_access a ≡ access_bits a.0
access_by_bits a = elim (cases_lt a.0 128) [ inl h ↦ small_access a.0 h | inr h ↦ large_access a.0 h ]

-- COMMON, COPY_DEST or UNORDERED_ACCESS alone, or some of the others
abbrev pub state_bits : ℕ → Bool
state_bits n = ((n == 1) || ((n == 32) || (n == 64))) || (not (n == 0) && (bit_and 30 n == n))

small_state : (n : ℕ) → n < 128 → is_valid (record { 0 = n }) ≡ state_bits n
unfolding is_valid state_has
small_state n h = same_is _ _ (at_below 128 (λ k. same (is_valid (record { 0 = k })) (state_bits k)) refl n h)

large_state : (n : ℕ) → 128 ≤ n → is_valid (record { 0 = n }) ≡ state_bits n
unfolding is_valid
large_state n h =
    rw (not_below n 128 h, is_other n 1 (omega (arith, h)), is_other n 32 (omega (arith, h)), is_other n 64 (omega (arith, h)), not_inside 30 n (omega (arith, h)))
    (sym (and-false (not (n == 0))))

pub state_by_bits : (s : State) → is_valid s ≡ state_bits s.0
state_by_bits s = elim (cases_lt s.0 128) [ inl h ↦ small_state s.0 h | inr h ↦ large_state s.0 h ]
