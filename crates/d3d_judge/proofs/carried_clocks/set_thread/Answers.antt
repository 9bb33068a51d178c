use Rattle.clocks.specs.Clocks.{with_call}
use Rattle.dx_base.proofs.Lists.{write_is_changed}
use Rattle.d3d_judge.proofs.carried_clocks.set_thread.Goals as goal

pub returns : goal.returns
returns c = write_is_changed (λ x. with_call x c.args.thread c.args.number) c.args.threads.now c.args.thread c.at_mut.result.now _ c.requires.thread c.at_mut.ensures.value c.set_call.ensures
