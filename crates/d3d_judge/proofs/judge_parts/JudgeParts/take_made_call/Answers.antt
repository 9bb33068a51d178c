use Rattle.std.proofs.Common.{sym}
use Rattle.d3d_judge.proofs.HostCalls.{access_inside, access_found}
use Rattle.d3d_judge.proofs.judge_parts.JudgeParts.take_made_call.Goals as goal

pub access-requires-clause-inside : goal.access-requires-clause-inside
access-requires-clause-inside c = access_inside c.args.world.now c.args.call.now c.in-Some.access (sym c.in-Some.ensures)

pub returns-in-Some : goal.returns-in-Some
returns-in-Some c = access_found c.args.world.now c.args.kept.now.fed.history c.args.self.now _ c.args.thread c.args.call.now c.in-Some.access _ (sym c.in-Some.ensures) c.access.ensures
