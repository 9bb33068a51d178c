use Rattle.std.proofs.Common.{subst}
use Rattle.d3d_judge.specs.WordTouches.{TellsHost}
use Rattle.d3d_judge.proofs.WordTouches.{host_told, or_then, or_else}
use Rattle.d3d_judge.proofs.word_touches.WordTouches.breaks_host.Goals as goal

pub returns-then-scope : goal.returns-then-scope
returns-then-scope c =
    subst (λ y. TellsHost c.args.self.now.resources c.args.clock.now c.args.access y) (or_then c.breaks_one-scope.result c.breaks_ten-call.result c.if-scope.true)
    (host_told c.args.self.now.resources c.args.clock.now c.args.access c.breaks_one-scope.result c.breaks_ten-call.result c.breaks_one-scope.ensures c.breaks_ten-call.ensures)

pub returns-else-scope : goal.returns-else-scope
returns-else-scope c =
    subst (λ y. TellsHost c.args.self.now.resources c.args.clock.now c.args.access y) (or_else c.breaks_one-scope.result c.breaks_ten-call.result c.if-scope.false)
    (host_told c.args.self.now.resources c.args.clock.now c.args.access c.breaks_one-scope.result c.breaks_ten-call.result c.breaks_one-scope.ensures c.breaks_ten-call.ensures)
