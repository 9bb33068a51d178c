use Rattle.std.proofs.Common.{◌++◌, ◌∷◌, [], ◌∙◌, ap, map}
use Rattle.dx_base.proofs.Lists.{map_write}
use Rattle.d3d_judge.specs.CarriedClocks.{updates_in, update_of}
use Rattle.d3d_judge.proofs.CarriedClocks.{got, map_one}
use Rattle.d3d_judge.proofs.carried_clocks.push_update.Goals as goal

pub push_reserved-requires : goal.push_reserved-requires
push_reserved-requires c = c.requires.room c.at_mut.result.now (got c.args.updates.now c.args.fence c.at_mut.result.now c.requires.fence c.at_mut.ensures.value)

pub returns : goal.returns
returns c = map_write updates_in (λ us. us ++ update_of c.args.update ∷ []) c.args.updates.now c.args.fence c.at_mut.result.now _ c.requires.fence c.at_mut.ensures.value (ap (map update_of) c.push_reserved.ensures ∙ map_one update_of c.at_mut.result.now.items c.args.update)
