-- Promotion of states (Direct3D 12 programming guide, "Implicit State Transitions").
use Rattle.std.specs.Prelude.{Bool, cond, Option, Some, None, ◌&&◌, ◌||◌}
use Rattle.dx_flags.specs.declared.states.State.{State}
use Rattle.dx_flags.specs.StateNames.{COMMON, NON_PIXEL_SHADER_RESOURCE, PIXEL_SHADER_RESOURCE, COPY_SOURCE, COPY_DEST}
use Rattle.dx_flags.specs.States.{one_state, is_valid}
use Rattle.legacy_states.specs.declared.currents.Current.{Current}
use Rattle.legacy_states.specs.declared.currents.Kind.{Kind}
use Rattle.legacy_states.specs.declared.currents.Kind.TheVariants.{Buffer, Shared, Plain}
use Rattle.legacy_states.specs.Currents.{contains, joined, is_state, is_read_state, is_promoted_read, promoted_to}

-- a plain texture may be promoted from COMMON to a state: to be read by shaders, or copied from or to
abbrev pub may_plain_be_promoted_to : State → Bool
may_plain_be_promoted_to need =
    is_state need (one_state NON_PIXEL_SHADER_RESOURCE) || (is_state need (one_state PIXEL_SHADER_RESOURCE)
    || (is_state need (one_state COPY_SOURCE) || is_state need (one_state COPY_DEST)))

-- a resource may be promoted from COMMON to a state: a buffer and a shared texture to any
abbrev pub may_be_promoted_to : Kind → State → Bool
may_be_promoted_to Buffer need = is_valid need
may_be_promoted_to Shared need = is_valid need
may_be_promoted_to Plain need = may_plain_be_promoted_to need

-- from COMMON to the need, and from a union of read states that was promoted to its union with a further one
abbrev pub promoted_from : Current → State → Option Current
promoted_from now need =
    cond (is_state now.state (one_state COMMON)) (Some (promoted_to need))
    (cond (is_promoted_read now && is_read_state need) (Some (promoted_to (joined now.state need))) None)

-- what `promote` answers: a state that contains the need stays
abbrev pub promoted_of : Kind → Current → State → Option Current
promoted_of kind now need =
    cond (contains now.state need) (Some now) (cond (may_be_promoted_to kind need) (promoted_from now need) None)
