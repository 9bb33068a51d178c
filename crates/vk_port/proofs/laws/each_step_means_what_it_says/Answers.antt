-- It is a lemma.
use Rattle.vk_port.proofs.Enabled.{enabled_means}
use Rattle.vk_port.proofs.laws.each_step_means_what_it_says.Goals as goal

pub returns : goal.returns
returns c = enabled_means
