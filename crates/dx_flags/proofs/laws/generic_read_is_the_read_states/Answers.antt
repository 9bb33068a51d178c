-- The bits are below 128, and the names are a lemma.
use Rattle.std.proofs.Common.{arith}
use Rattle.dx_flags.proofs.StateSets.{generic_reads}
use Rattle.dx_flags.proofs.laws.generic_read_is_the_read_states.Goals as goal

pub returns : goal.returns
returns c = record { known = omega arith; names = generic_reads }
