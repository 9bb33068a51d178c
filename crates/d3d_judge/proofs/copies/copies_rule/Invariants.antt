use Rattle.std.proofs.Common.{take, map, None}
use Rattle.d3d_judge.specs.CopyScopes.{AreCopiesReady, JudgesCopies}
use Rattle.d3d_judge.proofs.copies.copies_rule.Given as goal

abbrev pub invariant-loop-command : goal.invariant-loop-command
invariant-loop-command l =
    AreCopiesReady l.world l.touches.resources l.scope.clock.now l.scope.counts.now l.scope.queue (map (λ c. c.what) l.commands)
    × JudgesCopies l.world l.initial.touches.resources l.scope.clock.now l.scope.counts.now l.scope.queue l.scope.number (map (λ c. c.what) (take l.command-index l.commands)) l.touches.resources None
