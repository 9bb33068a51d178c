use Rattle.std.proofs.Common.{rules}
use Rattle.barrier_lowering.proofs.LayoutPlaces.{layout_there, no_sub_there, no_image_there}
use Rattle.barrier_lowering.proofs.layouts.Layouts.at.Goals as goal

pub returns-in-None : goal.returns-in-None
returns-in-None c = search (rules, no_image_there c.args.self.now.images c.args.image c.args.sub)

pub returns-in-None-get : goal.returns-in-None-get
returns-in-None-get c = search (rules, no_sub_there c.args.self.now.images c.args.image c.args.sub c.in-Some.subs.now)

pub returns-in-Some-get : goal.returns-in-Some-get
returns-in-Some-get c = search (rules, layout_there c.args.self.now.images c.args.image c.args.sub c.in-Some.subs.now c.in-Some-get.layout.now)
