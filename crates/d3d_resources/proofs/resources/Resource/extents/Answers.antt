-- By the limits that a texture keeps.
use Rattle.std.proofs.Common.{arith}
use Rattle.d3d_resources.proofs.Shapes.{texture_keeps_limits}
use Rattle.d3d_resources.proofs.resources.Resource.extents.Goals as goal

pub overflow_mul-mips : goal.overflow_mul-mips
overflow_mul-mips c = let limits = texture_keeps_limits c.requires c.in-Texture.is in omega arith

pub mip_extents-requires-clause-mip : goal.mip_extents-requires-clause-mip
mip_extents-requires-clause-mip c = let limits = texture_keeps_limits c.requires c.in-Texture.is in omega arith
