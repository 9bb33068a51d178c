-- The state that a subresource is in.
use Rattle.std.specs.Prelude.{Bool, true, false, bit_and, bit_or, ◌==◌, ◌&&◌}
use Rattle.dx_flags.specs.declared.states.State.{State}
use Rattle.dx_flags.specs.declared.states.TheConstants.State.{GENERIC_READ}
use Rattle.dx_flags.specs.StateNames.{COMMON}
use Rattle.dx_flags.specs.States.{one_state, is_valid}
use Rattle.legacy_states.specs.declared.currents.Current.{Current}

-- a set of states contains another
abbrev pub contains : State → State → Bool
contains state other = bit_and state.0 other.0 == other.0

-- the union of two sets of states
abbrev pub joined : State → State → State
joined state other = record { 0 = bit_or state.0 other.0 }

-- two sets of states are one
abbrev pub is_state : State → State → Bool
is_state state other = state.0 == other.0

-- a state is a union of read states
abbrev pub is_read_state : State → Bool
is_read_state state = is_valid state && contains GENERIC_READ state

-- a read promoted the subresource to its state
abbrev pub is_promoted_read : Current → Bool
is_promoted_read now = now.promoted && is_read_state now.state

-- a state to which an access promoted
abbrev pub promoted_to : State → Current
promoted_to state = record { state = state; promoted = true }

-- a state to which none did
abbrev pub settled : State → Current
settled state = record { state = state; promoted = false }

-- COMMON, to which a resource decays
abbrev pub common : Current
common = settled (one_state COMMON)
