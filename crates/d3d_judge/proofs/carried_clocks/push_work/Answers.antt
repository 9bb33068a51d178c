use Rattle.std.proofs.Common.{◌++◌, ◌∷◌, [], ◌∙◌, ap, map}
use Rattle.dx_base.proofs.Lists.{map_write}
use Rattle.d3d_judge.specs.CarriedClocks.{pending_in, pending_of}
use Rattle.d3d_judge.proofs.CarriedClocks.{got, map_one}
use Rattle.d3d_judge.proofs.carried_clocks.push_work.Goals as goal

pub push_reserved-requires : goal.push_reserved-requires
push_reserved-requires c = c.requires.room c.at_mut.result.now (got c.args.pending.now c.args.queue c.at_mut.result.now c.requires.queue c.at_mut.ensures.value)

pub returns : goal.returns
returns c = map_write pending_in (λ ps. ps ++ pending_of c.args.work ∷ []) c.args.pending.now c.args.queue c.at_mut.result.now _ c.requires.queue c.at_mut.ensures.value (ap (map pending_of) c.push_reserved.ensures ∙ map_one pending_of c.at_mut.result.now.items c.args.work)
