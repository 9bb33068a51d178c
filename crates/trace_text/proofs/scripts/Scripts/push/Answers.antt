use Rattle.std.proofs.Common.{arith}
use Rattle.trace_text.proofs.Scripting.{last_grows}
use Rattle.trace_text.proofs.scripts.Scripts.push.Goals as goal

pub returns : goal.returns
returns c =
    rw (← c.self.view_is)
    (last_grows c.self.inside.all c.in-Some.last c.at_mut.result.now c.push.new.self c.args.call
    (omega arith) c.at_mut.ensures.value c.in_ok-push.ensures.ok)
