-- A union of read states joined with another is one.
use Rattle.std.proofs.Common.{◌≡◌, ℕ, ◌<◌, ◌≤◌, Bool, true, false, not, ◌==◌, ◌&&◌, ◌||◌, bit_and, bit_or, arith, refl, sym, ◌∙◌}
use Rattle.std.proofs.lemmas.Bool.{and_parts, eqb-true}
use Rattle.std.proofs.lemmas.Nat.{and_le_l}
use Rattle.dx_flags.specs.declared.states.State.{State}
use Rattle.dx_flags.specs.declared.states.TheConstants.State.{GENERIC_READ}
use Rattle.dx_flags.specs.States.{is_valid}
use Rattle.dx_flags.proofs.Below.{all_below, at_below}
use Rattle.dx_flags.proofs.WellFormed.{state_bits, state_by_bits}
use Rattle.legacy_states.specs.Currents.{contains, joined, is_read_state}

-- a read state has no bit above those of GENERIC_READ
read_is_small : (state : State) → is_read_state state ≡ true → state.0 < 31
read_is_small state read =
    let within = and_parts (is_valid state) (contains GENERIC_READ state) read in
    let less : bit_and 30 state.0 ≤ 30 = and_le_l 30 state.0 in
    let same : bit_and 30 state.0 ≡ state.0 = eqb-true (bit_and 30 state.0) state.0 within.1 in
    omega arith

-- two numbers are unions of read states, so that their union is a state
joins_well : ℕ → ℕ → Bool
joins_well n k = not ((state_bits n && (bit_and 30 n == n)) && (state_bits k && (bit_and 30 k == k))) || state_bits (bit_or n k)

implied : (a b : Bool) → (not a || b) ≡ true → a ≡ true → b ≡ true
implied true b h e = h
implied false b h e = absurd (cc)

pub union_is_valid : (state other : State) → is_read_state state ≡ true → is_read_state other ≡ true → is_valid (joined state other) ≡ true
unfolding joins_well
union_is_valid state other first second =
    let all : joins_well state.0 other.0 ≡ true =
    at_below 31 (joins_well state.0) (at_below 31 (λ n. all_below 31 (joins_well n)) refl state.0 (read_is_small state first)) other.0 (read_is_small other second) in
    let reads : ((state_bits state.0 && (bit_and 30 state.0 == state.0)) && (state_bits other.0 && (bit_and 30 other.0 == other.0))) ≡ true =
    rw (sym (state_by_bits state), sym (state_by_bits other), first, second) refl in
    state_by_bits (joined state other) ∙ implied _ _ all reads
