use Rattle.std.proofs.Common.{◌<◌, sym, subst, length}
use Rattle.d3d_judge.specs.ActorTables.{actor_above}
use Rattle.d3d_judge.proofs.ActorTables.{any_hit}
use Rattle.d3d_judge.proofs.actor_tables.some_above.Goals as goal

pub returns-then-is_above : goal.returns-then-is_above
returns-then-is_above c = any_hit (length c.args.tables.now) c.loop-at.at (actor_above c.args.tables.now c.args.known.now c.args.first c.args.end)
    (subst (λ n. c.loop-at.at < n) c.len-at-end.ensures c.loop-at-test.true) (sym c.if-is_above.ensures)
