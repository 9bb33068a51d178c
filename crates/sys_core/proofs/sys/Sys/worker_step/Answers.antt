-- What the step leaves.
use Rattle.std.proofs.Common.{◌≡◌, sym, subst, refl, true, OnOk, ◌<◌, length}
use Rattle.vk_port.specs.Machine.{shown}
use Rattle.sys_core.specs.Goes.{WasTaken}
use Rattle.sys_core.specs.Steps.{is_ready_worker}
use Rattle.dx_base.specs.declared.steps.Step.TheVariants as step
use Rattle.sys_core.proofs.Stepping as stepping
use Rattle.sys_core.proofs.sys.Sys.worker_step.Goals as goal

pub returns-clause-whole : goal.returns-clause-whole
returns-clause-whole g c =
    stepping.whole_of c.self.inside.world c.self.inside.history.items c.self.inside.parts (g.D.VkDevice.view_of c.self.inside.device) c.self.invariant.keeps
    c.self.inside.history.items (g.D.VkDevice.view_of c.worker_step-taken.new.device) (g.D.VkDevice.view_of c.self.inside.device).rest (g.D.VkDevice.view_of c.worker_step-taken.new.device).rest c.worker_step-taken.result c.self.invariant.whole
    (stepping.worker_goes c.self.inside.world c.self.inside.history.items c.self.inside.parts (g.D.VkDevice.view_of c.self.inside.device) c.self.invariant.keeps
    c.args.queue.0 (subst (λ v. c.args.queue.0 < length v.world.queues) (sym c.self.view_is) c.requires.queue)
    (subst (λ v. is_ready_worker v.world v.history (shown v.device.state) c.args.queue.0 ≡ true) (sym c.self.view_is) c.requires.ready)
    (g.D.VkDevice.view_of c.worker_step-taken.new.device).state c.worker_step-taken.result c.worker_step-taken.ensures.state (g.D.VkDevice.view_of c.self.inside.device).rest (g.D.VkDevice.view_of c.worker_step-taken.new.device).rest c.worker_step-taken.ensures.rest)
    (stepping.stays_same c.worker_step-taken.result c.self.inside.history.items) c.worker_step-taken.ensures.answered

pub invariant_of-self : goal.invariant_of-self
invariant_of-self g c = record { keeps = c.settle-self-inside.ensures.keeps; queues = c.self.invariant.queues; whole = returns-clause-whole g c; counted = c.settle-self-inside.ensures.count; none_at_rest = c.settle-self-inside.ensures.none_at_rest }

pub returns-clause-taken : goal.returns-clause-taken
returns-clause-taken g c =
    subst (λ v. OnOk c.worker_step-taken.result (WasTaken (step.Worker c.args.queue.0) v (record { world = c.self.inside.world; history = c.self.inside.history.items; device = (g.D.VkDevice.view_of c.worker_step-taken.new.device); itself = c.worker_step-taken.new.device }))) c.self.view_is
    (stepping.taken c.self.inside.world c.self.inside.history.items c.self.inside.parts (g.D.VkDevice.view_of c.self.inside.device) c.self.invariant.keeps
    c.self.inside.device c.worker_step-taken.new.device (step.Worker c.args.queue.0) c.self.inside.history.items (g.D.VkDevice.view_of c.worker_step-taken.new.device) c.worker_step-taken.result
    (stepping.is_worker_step c.self.inside.world c.self.inside.history.items c.self.inside.parts (g.D.VkDevice.view_of c.self.inside.device) c.self.invariant.keeps c.args.queue.0 (g.D.VkDevice.view_of c.worker_step-taken.new.device) c.worker_step-taken.result c.worker_step-taken.ensures.state) (stepping.none_used c.self.inside.world c.self.inside.history.items c.self.inside.parts (g.D.VkDevice.view_of c.self.inside.device) c.self.invariant.keeps (step.Worker c.args.queue.0) c.worker_step-taken.result (g.D.VkDevice.view_of c.self.inside.device).rest (g.D.VkDevice.view_of c.worker_step-taken.new.device).rest c.worker_step-taken.ensures.rest refl)
    (stepping.worker_goes c.self.inside.world c.self.inside.history.items c.self.inside.parts (g.D.VkDevice.view_of c.self.inside.device) c.self.invariant.keeps
    c.args.queue.0 (subst (λ v. c.args.queue.0 < length v.world.queues) (sym c.self.view_is) c.requires.queue)
    (subst (λ v. is_ready_worker v.world v.history (shown v.device.state) c.args.queue.0 ≡ true) (sym c.self.view_is) c.requires.ready)
    (g.D.VkDevice.view_of c.worker_step-taken.new.device).state c.worker_step-taken.result c.worker_step-taken.ensures.state (g.D.VkDevice.view_of c.self.inside.device).rest (g.D.VkDevice.view_of c.worker_step-taken.new.device).rest c.worker_step-taken.ensures.rest))
