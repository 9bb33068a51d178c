-- The run of a world, from what its steps leave.
use Rattle.std.proofs.Common.{◌∙◌, sym, ap, subst}
use Rattle.sys_core.specs.Opened.{opened}
use Rattle.trace_runner.specs.Report.{Ran, left_by}
use Rattle.trace_runner.proofs.Concluding.{cause_since}
use Rattle.trace_runner.proofs.Going.{went_first}
use Rattle.trace_runner.proofs.runner.run_world.Goals as goal

pub returns-in-Ok-clause-ran : goal.returns-in-Ok-clause-ran
returns-in-Ok-clause-ran g c =
    subst (λ w. Ran w (left_by c.take_steps-end.new.log c.finish.result.history.items c.finish.result.fences (g.D.VkDevice.view_of c.args.device) (g.D.VkDevice.view_of c.finish.result.device)) c.finish.result.status)
    (c.take_steps-end.ensures.world ∙ c.in-Ok.ensures.world)
    (c.finish.ensures (g.D.VkDevice.view_of c.args.device)
    (cause_since c.take_steps-end.result (g.D.VkDevice.view_of c.args.device).faults c.in-Ok.sys.device.faults c.take_steps-end.new.sys.device.faults c.in-Ok.ensures.faults c.take_steps-end.ensures.cause)
    (c.take_steps-end.ensures.went (g.D.VkDevice.view_of c.args.device).rest
    (went_first c.in-Ok.sys.world (g.D.VkDevice.view_of c.args.device).rest c.args.log.now.choices.items c.args.log.now.taken.items c.in-Ok.sys.history c.in-Ok.sys.device
    c.in-Ok.ensures.rest c.requires.choices c.requires.taken c.in-Ok.ensures.history (c.in-Ok.ensures.opened ∙ ap opened (sym c.in-Ok.ensures.world)))))
