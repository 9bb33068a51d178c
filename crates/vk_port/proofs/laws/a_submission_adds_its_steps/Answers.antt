-- It is a lemma.
use Rattle.vk_port.proofs.Falls.{submit_left}
use Rattle.vk_port.proofs.laws.a_submission_adds_its_steps.Goals as goal

pub returns : goal.returns
returns c = submit_left
