-- What sets of resource states have, and which of them a resource may be in.
use Rattle.std.specs.Prelude.{Bool, true, false, not, nat_lt, bit_and, ◌==◌, ◌&&◌, ◌||◌, ◌^◌}
use Rattle.std.specs.List.{list_any, list_all}
use Rattle.dx_flags.specs.declared.states.State.{State}
use Rattle.dx_flags.specs.StateNames.{StateName, state_bit, state_names, COMMON, VERTEX_AND_CONSTANT_BUFFER, NON_PIXEL_SHADER_RESOURCE, PIXEL_SHADER_RESOURCE, COPY_SOURCE, COPY_DEST, UNORDERED_ACCESS}

-- the set of one state
abbrev pub one_state : StateName → State
one_state name = record { 0 = state_bit name }

-- a set has a name
unfoldable pub state_has : State → StateName → Bool
state_has state name = bit_and state.0 (state_bit name) == state_bit name

-- the read states, which may be joined
abbrev pub is_read : StateName → Bool
is_read COMMON = false
is_read VERTEX_AND_CONSTANT_BUFFER = true
is_read NON_PIXEL_SHADER_RESOURCE = true
is_read PIXEL_SHADER_RESOURCE = true
is_read COPY_SOURCE = true
is_read COPY_DEST = false
is_read UNORDERED_ACCESS = false

-- a set is the state of a resource: it has a name and no unknown bit, and a name that is no read state is the whole set
unfoldable pub is_valid : State → Bool
is_valid state =
    nat_lt state.0 (2 ^ 7)
    && (list_any (state_has state) state_names
    && list_all (λ name. (is_read name || not (state_has state name)) || (state.0 == state_bit name)) state_names)
