-- The run is what its last step and its end say.
use Rattle.std.proofs.Common.{sym, subst, refl}
use Rattle.trace_runner.specs.Report.{Ran, left_by}
use Rattle.trace_runner.proofs.Concluding.{ran_end}
use Rattle.trace_runner.proofs.runner.finish.Goals as goal

pub returns : goal.returns
returns g c before cause went =
    subst (λ d. Ran c.args.sys.world (left_by c.args.log.now c.into_parts-history.result.0.items c.ending_of-status.result.1 before d) c.ending_of-status.result.0) (sym c.into_parts-history.ensures.device)
    (subst (λ h. Ran c.args.sys.world (left_by c.args.log.now h c.ending_of-status.result.1 before c.args.sys.device) c.ending_of-status.result.0) (sym c.into_parts-history.ensures.history)
    (ran_end c.args.sys.world (left_by c.args.log.now c.args.sys.history c.ending_of-status.result.1 before c.args.sys.device)
    c.ending_of-status.result.0 c.args.end refl went c.requires.system c.requires.whole c.requires.over c.requires.last c.requires.equal cause
    c.ending_of-status.ensures))
