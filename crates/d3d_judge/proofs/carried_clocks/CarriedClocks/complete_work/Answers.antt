use Rattle.std.proofs.Common.{sym, subst}
use Rattle.dx_base.specs.Each.{Each}
use Rattle.d3d_judge.specs.CarriedClocks.{SameSize}
use Rattle.d3d_judge.proofs.CarriedClocks.{alike_completing, worked_is}
use Rattle.d3d_judge.proofs.carried_clocks.CarriedClocks.complete_work.Goals as goal

pub set_clock-requires-clause-alike : goal.set_clock-requires-clause-alike
set_clock-requires-clause-alike c =
    subst (λ y. Each (λ d. SameSize d y) c.args.self.now.queues) (sym c.completing_clock-clock.ensures)
    (alike_completing c.args.self.now.queues c.args.work.clock c.args.queue c.next_number-number.result c.requires.queue c.requires.alike c.requires.numbers)

pub returns-clause-clocks : goal.returns-clause-clocks
returns-clause-clocks c = worked_is c.args.self.now c.args.queue c.next_number-number.result c.args.work c.completing_clock-clock.result c.set_op.new.self c.set_clock.new.queues c.apply.new.updates
    c.next_number-number.ensures c.completing_clock-clock.ensures c.set_op.ensures c.set_clock.ensures c.apply.ensures
