-- It is a lemma.
use Rattle.vk_port.proofs.Offered.{offered}
use Rattle.vk_port.proofs.laws.what_may_be_done_is_offered.Goals as goal

pub returns : goal.returns
returns c = offered
