use Rattle.std.proofs.Common.{take}
use Rattle.dx_base.specs.Each.{Each}
use Rattle.d3d_judge.specs.CopyScopes.{IsCopyReady, IsShapedFor}
use Rattle.d3d_judge.specs.WordTouches.{KeepAllTies, KeepTables}
use Rattle.d3d_judge.proofs.copies.make_for_copies.Given as goal

abbrev pub invariant-loop-command : goal.invariant-loop-command
invariant-loop-command l =
    Each (λ c. IsCopyReady l.world l.touches.resources l.queue c.what) (take l.command-index l.commands)
    × KeepAllTies l.initial.touches.resources l.touches.resources
    × IsShapedFor l.world l.touches.resources
    × KeepTables l.initial.touches.resources l.touches.resources
