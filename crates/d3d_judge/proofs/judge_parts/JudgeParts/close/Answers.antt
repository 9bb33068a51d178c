use Rattle.std.proofs.Common.{length, refl}
use Rattle.d3d_judge.proofs.Calls.{list_at, named_only, numbers_at, found_close}
use Rattle.d3d_judge.proofs.judge_parts.JudgeParts.close.Goals as goal

pub close-closed-requires : goal.close-closed-requires
close-closed-requires c = list_at c.args.world.now c.args.kept.now.fed.history c.args.self.now c.requires.opened.stands c.args.list.0 (named_only c.args.list.0 (length c.args.world.now.lists) c.requires.named)

pub call-requires-clause-numbers : goal.call-requires-clause-numbers
call-requires-clause-numbers c = numbers_at c.args.world.now c.args.kept.now.fed.history c.args.self.now c.args.self.now.clocks refl c.requires.opened.stands c.args.thread c.requires.thread

pub returns : goal.returns
returns c = found_close c.args.world.now c.args.kept.now.fed.history c.args.self.now _ c.args.thread c.args.list c.requires c.close-closed.ensures.lists c.call.ensures refl
