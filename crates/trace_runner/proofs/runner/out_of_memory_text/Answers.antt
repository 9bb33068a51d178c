-- The line is there, and is the whole text.
use Rattle.run_text.specs.declared.status.Status.TheVariants as status
use Rattle.run_text.specs.Output.{output_of}
use Rattle.trace_runner.proofs.Concluding.{there}
use Rattle.trace_runner.proofs.runner.out_of_memory_text.Goals as goal

pub returns : goal.returns
returns c t o =
    there c.plain_line.result c.unwrap_or.result _ _ (output_of t (record o { status = status.Memory })) c.plain_line.ensures.value (c.plain_line.ensures.of_run t o) c.unwrap_or.ensures
