use Rattle.d3d_machine.specs.declared.events.Event.TheVariants as event
use Rattle.d3d_machine.specs.Replies.{reply_of}
use Rattle.d3d_machine.proofs.Machines.{shape_called, shape_woken}
use Rattle.d3d_machine.proofs.machine.Machine.step_thread.Goals as goal

pub returns-then-is_waiting-clause-shape : goal.returns-then-is_waiting-clause-shape
returns-then-is_waiting-clause-shape c =
    shape_woken c.args.world.now c.args.self.now c.wake_if.new.self c.is_met-met.result c.args.thread.0 c.requires.shape c.wake_if.ensures.state

pub returns-in_ok-call-in-Some-clause-shape : goal.returns-in_ok-call-in-Some-clause-shape
returns-in_ok-call-in-Some-clause-shape c =
    shape_called c.args.world.now c.args.self.now c.call.new.self (event.Call c.args.thread c.in-Some.call.now (reply_of c.args.world.now c.args.self.now c.in-Some.call.now))
    c.requires.shape c.in_ok-call-in-Some.ensures.state
