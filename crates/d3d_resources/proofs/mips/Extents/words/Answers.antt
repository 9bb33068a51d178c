-- A product of two extents is at most that of the greatest.
use Rattle.std.proofs.Common.{arith}
use Rattle.std.proofs.lemmas.Nat.{mul-le}
use Rattle.d3d_resources.proofs.mips.Extents.words.Goals as goal

pub returns-clause-bound : goal.returns-clause-bound
returns-clause-bound c = mul-le c.args.self.width c.args.self.height 4096 4096 (omega arith) (omega arith)
