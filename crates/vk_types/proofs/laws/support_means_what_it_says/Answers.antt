-- It is a lemma.
use Rattle.vk_types.proofs.Supported.{support_means}
use Rattle.vk_types.proofs.laws.support_means_what_it_says.Goals as goal

pub returns : goal.returns
returns c = support_means
