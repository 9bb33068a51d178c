use Rattle.std.proofs.Common.{◌≡◌, replicate, None}
use Rattle.d3d_judge.proofs.actor_tables.no_tables.Given as goal

abbrev pub invariant-loop-at : goal.invariant-loop-at
invariant-loop-at l = l.tables ≡ replicate l._at None
