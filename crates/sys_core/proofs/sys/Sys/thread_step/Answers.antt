-- What the step leaves.
use Rattle.std.proofs.Common.{subst, refl, OnOk}
use Rattle.sys_core.specs.Goes.{WasTaken}
use Rattle.dx_base.specs.declared.steps.Step.TheVariants as step
use Rattle.sys_core.proofs.Refusing as refusing
use Rattle.sys_core.proofs.Stepping as stepping
use Rattle.sys_core.proofs.sys.Sys.thread_step.Goals as goal

pub returns-clause-whole : goal.returns-clause-whole
returns-clause-whole g c =
    stepping.whole_of c.self.inside.world c.self.inside.history.items c.self.inside.parts (g.D.VkDevice.view_of c.self.inside.device) c.self.invariant.keeps
    c.thread_step-taken.new.history.items (g.D.VkDevice.view_of c.thread_step-taken.new.device) (g.D.VkDevice.view_of c.self.inside.device).rest (g.D.VkDevice.view_of c.thread_step-taken.new.device).rest c.thread_step-taken.result c.self.invariant.whole
    (stepping.thread_goes c.self.inside.world c.self.inside.history.items c.self.inside.parts (g.D.VkDevice.view_of c.self.inside.device) c.self.invariant.keeps
    c.args.thread.0 c.thread_step-taken.new.history.items (g.D.VkDevice.view_of c.thread_step-taken.new.device).state c.thread_step-taken.result c.thread_step-taken.ensures.step (g.D.VkDevice.view_of c.self.inside.device).rest (g.D.VkDevice.view_of c.thread_step-taken.new.device).rest c.thread_step-taken.ensures.rest)
    c.thread_step-taken.ensures.same c.thread_step-taken.ensures.answered

pub invariant_of-self : goal.invariant_of-self
invariant_of-self g c = record { keeps = c.settle-self-inside.ensures.keeps; queues = c.self.invariant.queues; whole = returns-clause-whole g c; counted = c.settle-self-inside.ensures.count; none_at_rest = c.settle-self-inside.ensures.none_at_rest }

pub returns-clause-taken : goal.returns-clause-taken
returns-clause-taken g c =
    subst (λ v. OnOk c.thread_step-taken.result (WasTaken (step.Thread c.args.thread.0) v (record { world = c.self.inside.world; history = c.thread_step-taken.new.history.items; device = (g.D.VkDevice.view_of c.thread_step-taken.new.device); itself = c.thread_step-taken.new.device }))) c.self.view_is
    (stepping.taken c.self.inside.world c.self.inside.history.items c.self.inside.parts (g.D.VkDevice.view_of c.self.inside.device) c.self.invariant.keeps
    c.self.inside.device c.thread_step-taken.new.device (step.Thread c.args.thread.0) c.thread_step-taken.new.history.items (g.D.VkDevice.view_of c.thread_step-taken.new.device) c.thread_step-taken.result
    c.thread_step-taken.ensures.step (stepping.none_used c.self.inside.world c.self.inside.history.items c.self.inside.parts (g.D.VkDevice.view_of c.self.inside.device) c.self.invariant.keeps (step.Thread c.args.thread.0) c.thread_step-taken.result (g.D.VkDevice.view_of c.self.inside.device).rest (g.D.VkDevice.view_of c.thread_step-taken.new.device).rest c.thread_step-taken.ensures.rest refl)
    (stepping.thread_goes c.self.inside.world c.self.inside.history.items c.self.inside.parts (g.D.VkDevice.view_of c.self.inside.device) c.self.invariant.keeps
    c.args.thread.0 c.thread_step-taken.new.history.items (g.D.VkDevice.view_of c.thread_step-taken.new.device).state c.thread_step-taken.result c.thread_step-taken.ensures.step (g.D.VkDevice.view_of c.self.inside.device).rest (g.D.VkDevice.view_of c.thread_step-taken.new.device).rest c.thread_step-taken.ensures.rest))

pub returns-clause-refusals : goal.returns-clause-refusals
returns-clause-refusals g c =
    refusing.refusals c.args.thread.0 c.args.self.now
    (record { world = c.self.inside.world; history = c.thread_step-taken.new.history.items; device = (g.D.VkDevice.view_of c.thread_step-taken.new.device); itself = c.thread_step-taken.new.device }) c.thread_step-taken.result
    (record { world = c.thread_step-taken.ensures.keeps.consistent.world; queues = c.self.invariant.queues; run = c.thread_step-taken.ensures.keeps.consistent.run; device = c.thread_step-taken.ensures.keeps.consistent.device; machine = c.thread_step-taken.ensures.keeps.machine_is })
    (returns-clause-taken g c)
