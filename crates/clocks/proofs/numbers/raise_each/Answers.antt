use Rattle.std.proofs.Common.{◌∙◌}
use Rattle.clocks.proofs.Places.{raised_next, raised_all}
use Rattle.clocks.proofs.numbers.raise_each.Goals as goal

pub loop-place-preserved : goal.loop-place-preserved
loop-place-preserved c = raised_next c.loop-place.place c.args.numbers.now c.args.others.now c.loop-place.numbers c.max.result _ _ c.loop-place.invariant c.loop-place-test.true c.requires c.max.ensures

pub returns : goal.returns
returns c = c.loop-place.invariant ∙ raised_all c.loop-place.place c.args.numbers.now c.args.others.now c.loop-place-test.false c.requires
