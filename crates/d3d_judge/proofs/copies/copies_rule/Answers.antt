use Rattle.std.proofs.Common.{◌+◌, map, take, subst, sym}
use Rattle.d3d_judge.specs.CopyScopes.{JudgesCopies}
use Rattle.d3d_judge.proofs.CopyReady.{one_ready, ready_twice}
use Rattle.d3d_judge.proofs.CopyRules.{judged_next, judged_all, none_left}
use Rattle.d3d_judge.proofs.copies.copies_rule.Goals as goal

pub copy_rule-rule-requires : goal.copy_rule-rule-requires
copy_rule-rule-requires c =
    one_ready c.args.world.now c.loop-command.touches.resources c.args.scope.now.clock.now c.args.scope.now.counts.now c.args.scope.now.queue c.args.commands.now c.loop-command.command-index _
    c.loop-command-test.true c.loop-command.invariant.0

pub returns-then-is_some-clause-rule : goal.returns-then-is_some-clause-rule
returns-then-is_some-clause-rule c =
    judged_all c.args.world.now c.args.touches.now.resources c.copy_rule-rule.new.touches.resources c.args.scope.now.clock.now c.args.scope.now.counts.now c.args.scope.now.queue c.args.scope.now.number
    c.args.commands.now (c.loop-command.command-index + 1) c.copy_rule-rule.result (sym c.if-is_some.ensures)
    (judged_next c.args.world.now c.args.touches.now.resources c.loop-command.touches.resources c.copy_rule-rule.new.touches.resources c.args.scope.now.clock.now c.args.scope.now.counts.now
    c.args.scope.now.queue c.args.scope.now.number c.args.commands.now c.loop-command.command-index _ c.copy_rule-rule.result c.loop-command-test.true c.loop-command.invariant.1 c.copy_rule-rule.ensures.rule)

pub returns-then-is_some-clause-shaped : goal.returns-then-is_some-clause-shaped
returns-then-is_some-clause-shaped c =
    (ready_twice c.args.world.now c.loop-command.touches.resources c.copy_rule-rule.new.touches.resources c.args.scope.now.clock.now c.args.scope.now.counts.now c.args.scope.now.queue
    c.args.scope.now.queue c.args.scope.now.number _ _ (map (λ x. x.what) c.args.commands.now) c.copy_rule-rule.ensures.resources c.loop-command.invariant.0).shaped

pub loop-command-preserved : goal.loop-command-preserved
loop-command-preserved c = (
  ready_twice c.args.world.now c.loop-command.touches.resources c.copy_rule-rule.new.touches.resources c.args.scope.now.clock.now c.args.scope.now.counts.now c.args.scope.now.queue
      c.args.scope.now.queue c.args.scope.now.number _ _ (map (λ x. x.what) c.args.commands.now) c.copy_rule-rule.ensures.resources c.loop-command.invariant.0,
  subst (JudgesCopies c.args.world.now c.args.touches.now.resources c.args.scope.now.clock.now c.args.scope.now.counts.now c.args.scope.now.queue c.args.scope.now.number
      (map (λ x. x.what) (take (c.loop-command.command-index + 1) c.args.commands.now)) c.copy_rule-rule.new.touches.resources)
      (none_left c.copy_rule-rule.result (sym c.if-is_some.ensures))
      (judged_next c.args.world.now c.args.touches.now.resources c.loop-command.touches.resources c.copy_rule-rule.new.touches.resources c.args.scope.now.clock.now c.args.scope.now.counts.now
      c.args.scope.now.queue c.args.scope.now.number c.args.commands.now c.loop-command.command-index _ c.copy_rule-rule.result c.loop-command-test.true c.loop-command.invariant.1 c.copy_rule-rule.ensures.rule),
)
