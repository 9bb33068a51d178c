use Rattle.trace_text.proofs.SoundLines.{parts_are_world}
use Rattle.trace_text.proofs.world_of.world.Goals as goal

pub returns-clause-valid : goal.returns-clause-valid
returns-clause-valid c =
    (parts_are_world c.args.trace.now c.in_ok-world.world c.as_slice.result.now c.in_ok-world-2.field-0 c.as_slice-2.result.now
    c.as_slice.ensures c.in_ok-world.ensures c.as_slice-2.ensures c.in_ok-world-2.ensures).valid

pub returns-clause-queues : goal.returns-clause-queues
returns-clause-queues c =
    (parts_are_world c.args.trace.now c.in_ok-world.world c.as_slice.result.now c.in_ok-world-2.field-0 c.as_slice-2.result.now
    c.as_slice.ensures c.in_ok-world.ensures c.as_slice-2.ensures c.in_ok-world-2.ensures).few_queues
