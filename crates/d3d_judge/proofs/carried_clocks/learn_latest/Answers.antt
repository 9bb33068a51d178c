use Rattle.std.proofs.Common.{◌∙◌, sym, ap}
use Rattle.clocks.specs.Clocks.{joined}
use Rattle.d3d_judge.proofs.CarriedClocks.{latest_is, latest_none, joined_none}
use Rattle.d3d_judge.proofs.carried_clocks.learn_latest.Goals as goal

pub returns-then-count-gt0 : goal.returns-then-count-gt0
returns-then-count-gt0 c = c.learn.ensures ∙ ap (λ y. joined c.args.clock.now y) (sym (latest_is c.args.updates.now c.if-count-gt0.true))

pub returns-else-count-gt0 : goal.returns-else-count-gt0
returns-else-count-gt0 c = sym (ap (λ y. joined c.args.clock.now y) (latest_none c.args.updates.now c.if-count-gt0.false) ∙ joined_none c.args.clock.now)
