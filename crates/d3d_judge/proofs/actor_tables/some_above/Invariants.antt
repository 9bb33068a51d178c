use Rattle.std.proofs.Common.{◌≡◌, false}
use Rattle.d3d_judge.specs.Tables.{any_below}
use Rattle.d3d_judge.specs.ActorTables.{actor_above}
use Rattle.d3d_judge.proofs.actor_tables.some_above.Given as goal

abbrev pub invariant-loop-at : goal.invariant-loop-at
invariant-loop-at l = any_below l.at (actor_above l.tables l.known l.first l.end) ≡ false
