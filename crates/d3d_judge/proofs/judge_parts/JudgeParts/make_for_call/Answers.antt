use Rattle.std.proofs.Common.{sym}
use Rattle.d3d_judge.proofs.Calls.{stands_touched}
use Rattle.d3d_judge.proofs.HostCalls.{access_inside}
use Rattle.d3d_judge.proofs.InsideWords.{world_small}
use Rattle.d3d_judge.proofs.judge_parts.JudgeParts.make_for_call.Goals as goal

pub make_for_host-requires-clause-small : goal.make_for_host-requires-clause-small
make_for_host-requires-clause-small c = world_small c.args.world.now c.requires.opened.sizes

pub make_for_host-requires-clause-inside : goal.make_for_host-requires-clause-inside
make_for_host-requires-clause-inside c = access_inside c.args.world.now c.args.call.now c.in-Some.access (sym c.in-Some.ensures)

pub returns-in_err-make_for_host-in-Some-clause-stands : goal.returns-in_err-make_for_host-in-Some-clause-stands
returns-in_err-make_for_host-in-Some-clause-stands c =
    stands_touched c.args.world.now c.args.kept.now.fed.history c.args.self.now c.make_for_host.new.touches c.requires.opened.stands (c.make_for_host.ensures.ties _) c.make_for_host.ensures.shaped

pub returns-in_ok-make_for_host-in-Some-clause-stands : goal.returns-in_ok-make_for_host-in-Some-clause-stands
returns-in_ok-make_for_host-in-Some-clause-stands c =
    stands_touched c.args.world.now c.args.kept.now.fed.history c.args.self.now c.make_for_host.new.touches c.requires.opened.stands (c.make_for_host.ensures.ties _) c.make_for_host.ensures.shaped
