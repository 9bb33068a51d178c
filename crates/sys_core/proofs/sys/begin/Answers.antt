-- The system is as it is before any call.
use Rattle.std.proofs.Common.{◌≡◌, ◌∙◌, sym, ap, subst, refl, [], Some, IsSome}
use Rattle.sys_core.specs.Lowering.{plan_of_world}
use Rattle.sys_core.specs.Ahead.{IsWhole}
use Rattle.sys_core.proofs.Beginning.{begins, is_opened}
use Rattle.sys_core.proofs.Whole.{whole_first}
use Rattle.sys_core.proofs.sys.begin.Goals as goal

pub returns-clause-opened : goal.returns-clause-opened
returns-clause-opened g c =
    is_opened c.args.world.now c.in_ok-plan.plan (g.D.VkDevice.view_of c.create.new.self).state (g.D.VkDevice.view_of c.submit_startup.new.device).state c.in_ok-plan.ensures c.in_ok-create.ensures.state c.in_ok-submit_startup.ensures.state

pub returns-clause-keeps : goal.returns-clause-keeps
returns-clause-keeps g c =
    let made : (g.D.VkDevice.view_of c.create.new.self).plan ≡ Some (plan_of_world c.args.world.now) = c.in_ok-create.ensures.plan ∙ ap (λ x. Some x) c.in_ok-plan.ensures in
    begins c.args.world.now c.requires.world c.in_ok-parts.parts (g.D.VkDevice.view_of c.submit_startup.new.device) c.in_ok-parts.ensures.lists c.in_ok-parts.ensures.seats c.in_ok-parts.ensures.fences c.in_ok-parts.ensures.held
    (returns-clause-opened g c) (c.submit_startup.ensures.answered.plan (subst (λ o. IsSome o) (sym made) refl) ∙ made) c.in_ok-parts.ensures.numbers

pub returns-clause-whole : goal.returns-clause-whole
returns-clause-whole g c = subst (λ m. IsWhole c.args.world.now [] m) (sym (returns-clause-opened g c)) (whole_first c.args.world.now)
