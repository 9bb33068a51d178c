-- The subresources of the image, written back.
use Rattle.std.proofs.Common.{arith, sym}
use Rattle.dx_base.specs.Lists.{changed_at}
use Rattle.dx_base.proofs.Lists.{changed_past}
use Rattle.vk_sync_rules.specs.Numbers.{put_numbers}
use Rattle.vk_sync_rules.proofs.ListSteps.{written_back}
use Rattle.vk_sync_rules.proofs.numbers.put_into_image.Goals as goal

pub returns-in_ok-put_into : goal.returns-in_ok-put_into
returns-in_ok-put_into c = written_back (changed_at (put_numbers c.args.first c.args.new.now) c.args.sub) c.args.image c.args.images.now c.at_mut.result.now _ (omega arith) c.at_mut.ensures.value c.in_ok-put_into.ensures.ok

pub returns-else-image-len : goal.returns-else-image-len
returns-else-image-len c = sym (changed_past (changed_at (put_numbers c.args.first c.args.new.now) c.args.sub) c.args.images.now c.args.image (omega arith))
