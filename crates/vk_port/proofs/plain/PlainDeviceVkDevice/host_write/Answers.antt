-- The words are written.
use Rattle.vk_port.proofs.Tying.{tied_host_write}
use Rattle.vk_port.proofs.plain.PlainDeviceVkDevice.host_write.Goals as goal

pub invariant_of-self-2 : goal.invariant_of-self-2
invariant_of-self-2 c = record {
  tied = tied_host_write c.args.self.now.store c.args.self.now.kept c.args.self.now.tied c.write.new.self c.then-self.result c.write.ensures.queues c.args.buffer c.args.first c.args.words.now
      c.then-self.ensures c.write.ensures.state c.write.ensures.words;
}
