-- By the limits that a texture keeps.
use Rattle.std.proofs.Common.{arith}
use Rattle.d3d_resources.proofs.Shapes.{texture_keeps_limits, sub_le_limit}
use Rattle.d3d_resources.proofs.resources.Resource.sub_words.Goals as goal

pub mip_words-requires-clause-mip : goal.mip_words-requires-clause-mip
mip_words-requires-clause-mip c = let limits = texture_keeps_limits c.requires.valid c.in-Texture.is in omega arith

pub returns-in-Texture-clause-bound : goal.returns-in-Texture-clause-bound
returns-in-Texture-clause-bound c =
    let limits = texture_keeps_limits c.requires.valid c.in-Texture.is in
    rw c.mip_words.ensures.value (sub_le_limit _ _ _ _ c.args.sub limits)
