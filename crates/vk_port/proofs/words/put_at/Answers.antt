-- The buffer that was read is written back.
use Rattle.std.proofs.Common.{arith, sym}
use Rattle.vk_port.specs.After.{put}
use Rattle.vk_port.proofs.Lists.{written_back, changed_past}
use Rattle.vk_port.proofs.words.put_at.Goals as goal

pub returns-then-buffer-len : goal.returns-then-buffer-len
returns-then-buffer-len c =
    written_back (put c.args.first c.args.new.now) c.args.buffer c.args.buffers.now c.at_mut.result.now c.put_words.new.words (omega arith) c.at_mut.ensures.value c.put_words.ensures

pub returns-else-buffer-len : goal.returns-else-buffer-len
returns-else-buffer-len c = sym (changed_past (put c.args.first c.args.new.now) c.args.buffer c.args.buffers.now (omega arith))
