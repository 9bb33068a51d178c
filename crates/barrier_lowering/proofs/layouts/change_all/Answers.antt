use Rattle.barrier_lowering.proofs.LayoutPlaces.{set_more}
use Rattle.barrier_lowering.proofs.layouts.change_all.Goals as goal

pub loop-layout-preserved : goal.loop-layout-preserved
loop-layout-preserved c = set_more c.args.new c.args.subs.now c.loop-layout.subs c.loop-layout.layout-index c.loop-layout-test.true c.loop-layout.invariant
