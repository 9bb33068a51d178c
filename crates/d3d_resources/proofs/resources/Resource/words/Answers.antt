-- By the limits that a texture keeps.
use Rattle.std.proofs.Common.{arith, ◌*◌, ◌∙◌, ap}
use Rattle.d3d_resources.proofs.Shapes.{texture_keeps_limits}
use Rattle.d3d_resources.proofs.Layers.{sum_of_subs}
use Rattle.d3d_resources.proofs.resources.Resource.words.Goals as goal

pub mips_words-requires-clause-mips : goal.mips_words-requires-clause-mips
mips_words-requires-clause-mips c = let limits = texture_keeps_limits c.requires c.in-Texture.is in omega arith

pub returns-in-Texture-clause-sum : goal.returns-in-Texture-clause-sum
returns-in-Texture-clause-sum c = ap (λ x. x * c.in-Texture.layers) c.mips_words.ensures.value ∙ sum_of_subs c.in-Texture.is
