-- It is a lemma.
use Rattle.std.proofs.Common.{arith}
use Rattle.vk_port.proofs.Falls.{falls}
use Rattle.vk_port.proofs.laws.each_step_leaves_fewer.Goals as goal

pub returns : goal.returns
returns c = λ v valid k s is. omega (arith, falls v valid k s is)
