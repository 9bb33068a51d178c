use Rattle.std.proofs.Common.{refl}
use Rattle.d3d_judge.proofs.Calls.{numbers_at}
use Rattle.d3d_judge.proofs.HostAccesses.{clock_is, clock_sized, access_broken, access_clean, thread_there, counted_there}
use Rattle.d3d_judge.proofs.InsideWords.{world_small}
use Rattle.d3d_judge.proofs.judge_parts.JudgeParts.access.Goals as goal

pub call-requires-clause-numbers : goal.call-requires-clause-numbers
call-requires-clause-numbers c = numbers_at c.args.world.now c.args.kept.now.fed.history c.args.self.now c.args.self.now.clocks refl c.requires.opened.stands c.args.thread c.requires.thread

pub thread_clock-clock-requires : goal.thread_clock-clock-requires
thread_clock-clock-requires c = thread_there c.args.world.now c.args.kept.now.fed.history c.args.self.now c.args.thread c.requires.opened c.requires.thread c.call.new.self c.call.ensures

pub meets_any-requires : goal.meets_any-requires
meets_any-requires c = record {
  small = world_small c.args.world.now c.requires.opened.sizes;
  shaped = c.requires.opened.stands.shaped;
  sized = clock_sized c.args.world.now c.args.kept.now.fed.history c.args.self.now c.args.thread c.args.access c.requires.opened c.requires.thread c.call.new.self c.thread_clock-clock.result.now c.call.ensures c.thread_clock-clock.ensures;
  inside = c.requires.inside;
}

pub returns-then-meets_any : goal.returns-then-meets_any
returns-then-meets_any c =
    access_broken c.args.world.now c.args.kept.now.fed.history c.args.self.now c.args.thread c.args.access c.requires.opened c.requires.thread c.thread_clock-clock.result.now c.args.self.now.touches.resources c.meets_any.result _
    (clock_is c.args.world.now c.args.kept.now.fed.history c.args.self.now c.args.thread c.args.access c.requires.opened c.requires.thread c.call.new.self c.thread_clock-clock.result.now c.call.ensures c.thread_clock-clock.ensures)
    (clock_sized c.args.world.now c.args.kept.now.fed.history c.args.self.now c.args.thread c.args.access c.requires.opened c.requires.thread c.call.new.self c.thread_clock-clock.result.now c.call.ensures c.thread_clock-clock.ensures)
    c.requires.opened.stands.ties c.meets_any.ensures c.if-meets_any.true

pub last_call-number-requires : goal.last_call-number-requires
last_call-number-requires c = counted_there c.args.world.now c.args.kept.now.fed.history c.args.self.now c.args.thread c.requires.opened c.requires.thread c.call.new.self c.call.ensures

pub touch_by_host-requires-clause-small : goal.touch_by_host-requires-clause-small
touch_by_host-requires-clause-small c = world_small c.args.world.now c.requires.opened.sizes

pub returns : goal.returns
returns c =
    access_clean c.args.world.now c.args.kept.now.fed.history c.args.self.now c.args.thread c.args.access c.requires.opened c.requires.thread c.thread_clock-clock.result.now c.args.self.now.touches.resources c.meets_any.result c.last_call-number.result _
    (clock_is c.args.world.now c.args.kept.now.fed.history c.args.self.now c.args.thread c.args.access c.requires.opened c.requires.thread c.call.new.self c.thread_clock-clock.result.now c.call.ensures c.thread_clock-clock.ensures)
    (clock_sized c.args.world.now c.args.kept.now.fed.history c.args.self.now c.args.thread c.args.access c.requires.opened c.requires.thread c.call.new.self c.thread_clock-clock.result.now c.call.ensures c.thread_clock-clock.ensures)
    c.requires.opened.stands.ties c.meets_any.ensures c.if-meets_any.false c.call.ensures c.last_call-number.ensures refl c.touch_by_host.ensures.ties c.touch_by_host.ensures.shaped
