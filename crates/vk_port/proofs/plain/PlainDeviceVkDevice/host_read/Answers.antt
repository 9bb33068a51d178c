-- The words that are read agree with what the host sees.
use Rattle.vk_port.proofs.Tying.{read_agrees}
use Rattle.vk_port.proofs.plain.PlainDeviceVkDevice.host_read.Goals as goal

pub returns-clause-seen : goal.returns-clause-seen
returns-clause-seen c = read_agrees c.args.self.now.store c.args.self.now.kept c.args.buffer c.args.first c.args.count c.in_ok-words.words.items c.args.self.now.tied c.in_ok-words.ensures
