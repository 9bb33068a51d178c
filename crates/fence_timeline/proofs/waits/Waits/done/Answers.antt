use Rattle.std.proofs.Common.{List, sym, subst, rules}
use Rattle.fence_timeline.specs.declared.wait.Wait.{Wait}
use Rattle.fence_timeline.specs.Waits.{IsIn}
use Rattle.fence_timeline.proofs.WaitList.{waits_left, removed_is}
use Rattle.fence_timeline.proofs.waits.Waits.done.Goals as goal

pub invariant_of-self : goal.invariant_of-self
invariant_of-self c =
    let left = removed_is
    c.self.inside.items.items c.remove.new.self.items c.args.wait c.self.inside.next c.place_of-place.result c.remove.result
    c.self.invariant (subst (λ (ws : List Wait). IsIn ws c.args.wait) (sym c.self.view_is) c.requires) c.place_of-place.ensures (search rules) c.remove.ensures.items
    in
    waits_left _ _ _ _ left c.self.invariant

pub returns : goal.returns
returns c =
    let left = removed_is
    c.self.inside.items.items c.remove.new.self.items c.args.wait c.self.inside.next c.place_of-place.result c.remove.result
    c.self.invariant (subst (λ (ws : List Wait). IsIn ws c.args.wait) (sym c.self.view_is) c.requires) c.place_of-place.ensures (search rules) c.remove.ensures.items
    in
    rw (← c.self.view_is) left
