use Rattle.vk_port.proofs.Settled.{host_reads_settled, writes_shown}
use Rattle.vk_port.proofs.read_laws.settled_host_reads_are_known.Goals as goal

-- src/read_laws.rt:70:1
pub returns-clause-shown : goal.returns-clause-shown
returns-clause-shown c = writes_shown

-- src/read_laws.rt:70:1
pub returns-clause-known : goal.returns-clause-known
returns-clause-known c = host_reads_settled
