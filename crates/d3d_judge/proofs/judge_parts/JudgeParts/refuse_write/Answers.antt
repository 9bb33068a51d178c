use Rattle.std.proofs.Common.{length, refl}
use Rattle.d3d_machine.specs.Checks.{write_refusal}
use Rattle.d3d_judge.proofs.Calls.{numbers_at}
use Rattle.d3d_judge.proofs.HostAccesses.{refused_write}
use Rattle.d3d_judge.proofs.HostCalls.{refused_of}
use Rattle.d3d_judge.proofs.judge_parts.JudgeParts.refuse_write.Goals as goal

pub call-requires-clause-numbers : goal.call-requires-clause-numbers
call-requires-clause-numbers c = numbers_at c.args.world.now c.args.kept.now.fed.history c.args.self.now c.args.self.now.clocks refl c.requires.takes.opened.stands c.args.thread c.requires.takes.thread

pub returns : goal.returns
returns c =
    refused_write c.args.world.now c.args.kept.now.fed.history c.args.self.now _ c.args.thread c.args.buffer c.args.offset c.args.words.now c.requires.takes
    (refused_of (write_refusal c.args.world.now c.args.buffer.0 c.args.offset (length c.args.words.now)) _ c.requires.refused) refl c.call.ensures refl
