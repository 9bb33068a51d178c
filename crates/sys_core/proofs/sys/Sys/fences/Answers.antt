-- The last updates are the machine's values.
use Rattle.std.proofs.Common.{◌≡◌, ◌∙◌, ap, subst, map, IfOk}
use Rattle.d3d_machine.specs.Play.{state_after}
use Rattle.sys_core.specs.Parts.{updates_in}
use Rattle.d3d_machine.specs.Past.{last_of}
use Rattle.sys_core.proofs.PastParts.{values_through, values_are, ok_same}
use Rattle.sys_core.proofs.sys.Sys.fences.Goals as goal

pub returns : goal.returns
returns g c =
    subst (λ v. IfOk c.last_values.result (λ values. values ≡ (state_after v.world v.history).desk.fences)) c.self.view_is
    (ok_same c.last_values.result (map (λ u. last_of u.items) c.as_slice.result.now) (state_after c.self.inside.world c.self.inside.history.items).desk.fences c.last_values.ensures
    (ap (map (λ u. last_of u.items)) c.as_slice.ensures ∙ values_through c.self.inside.parts.fences
    ∙ values_are c.self.inside.world c.self.inside.history.items c.self.inside.parts.lists c.self.inside.parts.seats (map updates_in c.self.inside.parts.fences)
    c.self.invariant.keeps.consistent.past_is c.self.invariant.keeps.consistent.world c.self.invariant.keeps.consistent.run))
