-- What the step leaves.
use Rattle.std.proofs.Common.{subst, OnOk}
use Rattle.sys_core.specs.Goes.{WasTaken}
use Rattle.dx_base.specs.declared.steps.Step.TheVariants as step
use Rattle.sys_core.proofs.Stepping as stepping
use Rattle.sys_core.proofs.sys.Sys.device_step.Goals as goal

pub returns-clause-whole : goal.returns-clause-whole
returns-clause-whole g c =
    stepping.whole_of c.self.inside.world c.self.inside.history.items c.self.inside.parts (g.D.VkDevice.view_of c.self.inside.device) c.self.invariant.keeps
    c.device_step-taken.new.history.items (g.D.VkDevice.view_of c.device_step-taken.new.device) (g.D.VkDevice.view_of c.self.inside.device).rest (g.D.VkDevice.view_of c.device_step-taken.new.device).rest c.device_step-taken.result c.self.invariant.whole
    (stepping.device_goes c.self.inside.world c.self.inside.history.items c.self.inside.parts (g.D.VkDevice.view_of c.self.inside.device) c.self.invariant.keeps
    c.args.k c.device_step-taken.new.history.items (g.D.VkDevice.view_of c.device_step-taken.new.device).state c.device_step-taken.result c.device_step-taken.ensures.step c.device_step-taken.ensures.keeps.consistent.run
    (g.D.VkDevice.view_of c.self.inside.device).rest (g.D.VkDevice.view_of c.device_step-taken.new.device).rest c.device_step-taken.ensures.rest)
    c.device_step-taken.ensures.same c.device_step-taken.ensures.answered

pub invariant_of-self : goal.invariant_of-self
invariant_of-self g c = record { keeps = c.settle-self-inside.ensures.keeps; queues = c.self.invariant.queues; whole = returns-clause-whole g c; counted = c.settle-self-inside.ensures.count; none_at_rest = c.settle-self-inside.ensures.none_at_rest }

pub returns-clause-taken : goal.returns-clause-taken
returns-clause-taken g c =
    subst (λ v. OnOk c.device_step-taken.result (WasTaken (step.Device c.args.k) v (record { world = c.self.inside.world; history = c.device_step-taken.new.history.items; device = (g.D.VkDevice.view_of c.device_step-taken.new.device); itself = c.device_step-taken.new.device }))) c.self.view_is
    (stepping.taken c.self.inside.world c.self.inside.history.items c.self.inside.parts (g.D.VkDevice.view_of c.self.inside.device) c.self.invariant.keeps
    c.self.inside.device c.device_step-taken.new.device (step.Device c.args.k) c.device_step-taken.new.history.items (g.D.VkDevice.view_of c.device_step-taken.new.device) c.device_step-taken.result
    c.device_step-taken.ensures.step c.device_step-taken.ensures.rest
    (stepping.device_goes c.self.inside.world c.self.inside.history.items c.self.inside.parts (g.D.VkDevice.view_of c.self.inside.device) c.self.invariant.keeps
    c.args.k c.device_step-taken.new.history.items (g.D.VkDevice.view_of c.device_step-taken.new.device).state c.device_step-taken.result c.device_step-taken.ensures.step c.device_step-taken.ensures.keeps.consistent.run
    (g.D.VkDevice.view_of c.self.inside.device).rest (g.D.VkDevice.view_of c.device_step-taken.new.device).rest c.device_step-taken.ensures.rest))
