use Rattle.std.proofs.Common.{length, refl}
use Rattle.d3d_judge.proofs.Calls.{list_at, named_first, numbers_at, found_record}
use Rattle.d3d_judge.proofs.judge_parts.JudgeParts.record.Goals as goal

pub record-requires : goal.record-requires
record-requires c = list_at c.args.world.now c.args.kept.now.fed.history c.args.self.now c.requires.opened.stands c.args.list.0 (named_first c.args.list.0 (length c.args.world.now.lists) _ c.requires.named)

pub call-requires-clause-numbers : goal.call-requires-clause-numbers
call-requires-clause-numbers c = numbers_at c.args.world.now c.args.kept.now.fed.history c.args.self.now c.args.self.now.clocks refl c.requires.opened.stands c.args.thread c.requires.thread

pub returns-clause-found : goal.returns-clause-found
returns-clause-found c = found_record c.args.world.now c.args.kept.now.fed.history c.args.self.now _ c.args.thread c.args.list c.args.what c.requires c.in_ok-record.ensures.lists c.call.ensures refl
