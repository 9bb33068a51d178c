-- Each turn sets one pair.
use Rattle.std.proofs.Common.{◌∙◌, ap}
use Rattle.vk_types.specs.Timelines.{after_sets}
use Rattle.vk_types.proofs.Lists.{opened}
use Rattle.vk_types.proofs.timelines.set_timelines.Goals as goal

pub loop-i-preserved : goal.loop-i-preserved
loop-i-preserved c =
    rw c.set_timeline.ensures (c.loop-i.invariant ∙ ap (λ pairs. after_sets pairs c.loop-i.timelines) (opened c.args.sets.now c.loop-i.i c.at.result.now c.at.ensures))
