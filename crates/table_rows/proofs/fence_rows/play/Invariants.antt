use Rattle.table_rows.specs.WaitedFences.{IsWaitedFor}
use Rattle.table_rows.proofs.fence_rows.play.Given as goal

abbrev pub invariant-loop-row : goal.invariant-loop-row
invariant-loop-row g l = IsWaitedFor l.fence l.wait
