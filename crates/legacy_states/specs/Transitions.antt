-- Transitions of states (Direct3D 12 programming guide: D3D12_RESOURCE_TRANSITION_BARRIER).
use Rattle.std.specs.Prelude.{cond, Option, Some, None}
use Rattle.dx_flags.specs.declared.states.State.{State}
use Rattle.legacy_states.specs.declared.currents.Current.{Current}
use Rattle.legacy_states.specs.Currents.{is_state, settled}

-- what `transition` answers: the state after, where the subresource is in the state before
abbrev pub transition_of : Current → State → State → Option Current
transition_of now before after = cond (is_state now.state before) (Some (settled after)) None
