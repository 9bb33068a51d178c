use Rattle.std.proofs.Common.{◌+◌, ◌-◌, ◌∙◌, ◌++◌, [], ◌∷◌, ap, arith}
use Rattle.barrier_lowering.specs.Startup.{startup_of_image}
use Rattle.barrier_lowering.proofs.StartupCommands.{barrier_more}
use Rattle.barrier_lowering.proofs.startup.add_barriers_of_image.Goals as goal

pub loop-sub-preserved : goal.loop-sub-preserved
loop-sub-preserved c =
    let left = c.args.subs - (c.loop-sub.sub + 1) in
    ap
    (λ commands. commands ++ startup_of_image c.args.image c.args.layout (c.loop-sub.sub + 1) left)
    (c.in_ok-push.ensures.ok ∙ ap (λ b. c.loop-sub.commands ++ b ∷ []) c.startup_barrier.ensures)
    ∙ barrier_more c.loop-sub.commands c.args.image c.args.layout c.loop-sub.sub (c.args.subs - c.loop-sub.sub) left (omega (arith, c.loop-sub-test.true))
    ∙ c.loop-sub.invariant
