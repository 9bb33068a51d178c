-- Decay of states (Direct3D 12 programming guide, "State Decay to Common").
use Rattle.std.specs.Prelude.{Bool, true, false, cond, ◌||◌}
use Rattle.dx_base.specs.declared.kinds.ListType.{ListType}
use Rattle.dx_base.specs.declared.kinds.ListType.TheVariants.{Direct, Compute, Copy}
use Rattle.legacy_states.specs.declared.currents.Current.{Current}
use Rattle.legacy_states.specs.declared.currents.Kind.{Kind}
use Rattle.legacy_states.specs.declared.currents.Kind.TheVariants.{Buffer, Shared, Plain}
use Rattle.legacy_states.specs.Currents.{is_promoted_read, settled, common}

-- a queue has copies alone
abbrev pub is_copy_queue : ListType → Bool
is_copy_queue Direct = false
is_copy_queue Compute = false
is_copy_queue Copy = true

-- a subresource goes back to COMMON at the end of a scope
abbrev pub decays : Kind → ListType → Current → Bool
decays Buffer queue now = true
decays Shared queue now = true
decays Plain queue now = is_copy_queue queue || is_promoted_read now

-- what `decay` answers: where it does not, the state stays, and counts as not promoted
abbrev pub decayed_of : Kind → ListType → Current → Current
decayed_of kind queue now = cond (decays kind queue now) common (settled now.state)
