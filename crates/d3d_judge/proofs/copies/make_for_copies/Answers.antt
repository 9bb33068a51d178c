use Rattle.d3d_judge.proofs.CopyReady.{more_ready}
use Rattle.d3d_judge.proofs.WordTouches.{tables_twice, tables_same}
use Rattle.d3d_judge.proofs.copies.make_for_copies.Goals as goal

pub returns-in_err-make_for_copy-clause-ties : goal.returns-in_err-make_for_copy-clause-ties
returns-in_err-make_for_copy-clause-ties c made h = c.make_for_copy.ensures.ties made (c.loop-command.invariant.1 made h)

pub loop-command-preserved : goal.loop-command-preserved
loop-command-preserved c = (
  more_ready c.args.world.now c.loop-command.touches.resources c.make_for_copy.new.touches.resources c.args.queue c.args.commands.now c.loop-command.command-index _ c.loop-command-test.true
      c.make_for_copy.ensures.kept c.in_ok-make_for_copy.ensures.ready c.loop-command.invariant.0,
  (λ made h. c.make_for_copy.ensures.ties made (c.loop-command.invariant.1 made h)),
  c.make_for_copy.ensures.shaped,
  tables_twice _ _ _ c.loop-command.invariant.3 c.make_for_copy.ensures.kept,
)

pub loop-command-init : goal.loop-command-init
loop-command-init c = (tt, (λ made h. h), c.requires.shaped, tables_same _)

pub returns-in_err-make_for_copy-clause-kept : goal.returns-in_err-make_for_copy-clause-kept
returns-in_err-make_for_copy-clause-kept c = tables_twice _ _ _ c.loop-command.invariant.3 c.make_for_copy.ensures.kept
