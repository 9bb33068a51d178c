use Rattle.std.proofs.Common.{sym, subst, map}
use Rattle.d3d_machine.specs.State.{State}
use Rattle.d3d_machine.specs.Shape.{HasShape}
use Rattle.d3d_machine.specs.Machine.{operations_in}
use Rattle.d3d_machine.specs.contracts.machine.Machine.{the_view}
use Rattle.d3d_machine.proofs.Machines.{shape_completed}
use Rattle.d3d_machine.proofs.machine.Machine.step_queue.Goals as goal

pub returns-clause-shape : goal.returns-clause-shape
returns-clause-shape c =
    let s : State = the_view c.self.inside in
    shape_completed c.args.world.now s c.complete.new.self c.args.queue.0 (map operations_in c.take_operation-operation.new.called) c.take_operation-operation.result
    (subst (HasShape c.args.world.now) (sym c.self.view_is) c.requires.shape) c.take_operation-operation.ensures.rest c.complete.ensures
