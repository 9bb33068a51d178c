-- By the limits that a texture keeps.
use Rattle.std.proofs.Common.{arith}
use Rattle.d3d_resources.proofs.Shapes.{texture_keeps_limits}
use Rattle.d3d_resources.proofs.resources.Resource.subs.Goals as goal

pub overflow_mul-result : goal.overflow_mul-result
overflow_mul-result c = let limits = texture_keeps_limits c.requires c.in-Texture.is in omega arith
