-- Each turn makes the words of one buffer.
use Rattle.std.proofs.Common.{sym}
use Rattle.vk_port.specs.Words.{first_words}
use Rattle.vk_port.proofs.Lists.{mapped_more}
use Rattle.vk_port.proofs.words.first_words.Goals as goal

pub loop-i-preserved : goal.loop-i-preserved
loop-i-preserved c =
    let more = mapped_more first_words c.args.plan.now.buffers c.loop-i.i c.at.result.now c.at.ensures in
    rw (c.in_ok-push.ensures.ok, c.loop-i.invariant, c.in_ok-zeros.ensures) (sym more)
