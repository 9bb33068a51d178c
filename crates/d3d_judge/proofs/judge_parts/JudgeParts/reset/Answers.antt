use Rattle.std.proofs.Common.{length, refl}
use Rattle.d3d_judge.proofs.Calls.{list_at, named_first, numbers_at, found_reset}
use Rattle.d3d_judge.proofs.judge_parts.JudgeParts.reset.Goals as goal

pub reset-reset-requires : goal.reset-reset-requires
reset-reset-requires c = list_at c.args.world.now c.args.kept.now.fed.history c.args.self.now c.requires.opened.stands c.args.list.0 (named_first c.args.list.0 (length c.args.world.now.lists) _ c.requires.named)

pub call-requires-clause-numbers : goal.call-requires-clause-numbers
call-requires-clause-numbers c = numbers_at c.args.world.now c.args.kept.now.fed.history c.args.self.now c.args.self.now.clocks refl c.requires.opened.stands c.args.thread c.requires.thread

pub returns : goal.returns
returns c = found_reset c.args.world.now c.args.kept.now.fed.history c.args.self.now _ c.args.thread c.args.list c.args.allocator c.requires c.reset-reset.ensures.lists c.call.ensures refl
