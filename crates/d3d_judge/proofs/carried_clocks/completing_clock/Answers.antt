use Rattle.std.proofs.Common.{◌<◌, ◌∙◌, ap, sym, subst, length}
use Rattle.clocks.specs.Clocks.{joined, with_op, empty_clock}
use Rattle.d3d_judge.proofs.CarriedClocks.{below_greater, item_got}
use Rattle.d3d_judge.proofs.carried_clocks.completing_clock.Goals as goal

pub set_op-requires : goal.set_op-requires
set_op-requires c = subst (λ y. c.args.queue < length y.queues) (sym c.join.ensures) (below_greater c.args.clock.queues c.at.result.now.queues c.args.queue c.requires.numbers)

pub returns : goal.returns
returns c =
    c.set_op.ensures ∙ (ap (λ y. with_op y c.args.queue c.args.number) c.join.ensures
    ∙ ap (λ y. with_op (joined c.args.clock y) c.args.queue c.args.number) (sym (item_got empty_clock c.args.queues.now c.args.queue c.at.result.now c.at.ensures)))
