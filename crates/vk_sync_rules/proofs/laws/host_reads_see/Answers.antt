-- It is a lemma.
use Rattle.vk_sync_rules.proofs.HostAccesses.{host_sees}
use Rattle.vk_sync_rules.proofs.laws.host_reads_see.Goals as goal

pub returns : goal.returns
returns c = host_sees
