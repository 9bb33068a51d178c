-- The batch is submitted.
use Rattle.vk_port.proofs.Tying.{tied_submit}
use Rattle.vk_port.proofs.plain.PlainDeviceVkDevice.submit.Goals as goal

pub invariant_of-self-2 : goal.invariant_of-self-2
invariant_of-self-2 c = record {
  tied = tied_submit c.args.self.now.store c.args.self.now.kept c.args.self.now.tied c.submit.new.self c.then-kept.result c.in_ok-submit.ensures.queues c.args.batch c.then-kept.ensures c.requires.number
      c.requires.plan c.requires.fits c.in_ok-submit.ensures.ok c.in_ok-submit.ensures.words;
}
