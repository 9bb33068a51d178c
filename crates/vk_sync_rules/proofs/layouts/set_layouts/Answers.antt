-- The layouts of the image, written back.
use Rattle.std.proofs.Common.{arith, sym}
use Rattle.dx_base.proofs.Lists.{changed_past}
use Rattle.vk_sync_rules.specs.NextState.{with_layout}
use Rattle.vk_sync_rules.proofs.ListSteps.{written_back}
use Rattle.vk_sync_rules.proofs.layouts.set_layouts.Goals as goal

pub returns-then-image-len : goal.returns-then-image-len
returns-then-image-len c = written_back (with_layout c.args.layout c.args.subs.now) c.args.image c.args.layouts.now c.at_mut.result.now _ (omega arith) c.at_mut.ensures.value c.set_all.ensures

pub returns-else-image-len : goal.returns-else-image-len
returns-else-image-len c = sym (changed_past (with_layout c.args.layout c.args.subs.now) c.args.layouts.now c.args.image (omega arith))
