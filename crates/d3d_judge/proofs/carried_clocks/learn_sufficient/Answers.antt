use Rattle.std.proofs.Common.{◌∙◌, sym, ap}
use Rattle.clocks.specs.Clocks.{joined}
use Rattle.d3d_judge.proofs.CarriedClocks.{clock_none, joined_none}
use Rattle.d3d_judge.proofs.carried_clocks.learn_sufficient.Goals as goal

pub returns-else-at-updates : goal.returns-else-at-updates
returns-else-at-updates c =
    sym (ap (λ y. joined c.args.clock.now y) (c.first_sufficient-at.ensures ∙ clock_none c.args.updates.now c.first_sufficient-at.result c.if-at-updates.false)
    ∙ joined_none c.args.clock.now)
