use Rattle.std.proofs.Common.{◌∙◌, ap, sym, map, drop, [], option_map}
use Rattle.dx_base.proofs.Lists.{map_write}
use Rattle.d3d_judge.specs.Carried.{head}
use Rattle.d3d_judge.specs.CarriedClocks.{pending_in, pending_of, oldest_in}
use Rattle.d3d_judge.proofs.CarriedClocks.{got, item_map, head_is, map_rest}
use Rattle.d3d_judge.proofs.carried_clocks.take_work.Goals as goal

pub returns-clause-oldest : goal.returns-clause-oldest
returns-clause-oldest c =
    let g = got c.args.pending.now c.args.queue c.at_mut.result.now c.requires c.at_mut.ensures.value in
    ap (option_map pending_of) c.pop.ensures.first ∙ (sym (head_is pending_of c.at_mut.result.now.items)
    ∙ ap head (sym (item_map pending_in [] c.args.pending.now c.args.queue c.at_mut.result.now g)))

pub returns-clause-first : goal.returns-clause-first
returns-clause-first c = c.pop.ensures.first ∙ sym (ap oldest_in (got c.args.pending.now c.args.queue c.at_mut.result.now c.requires c.at_mut.ensures.value))

pub returns-clause-rest : goal.returns-clause-rest
returns-clause-rest c = map_write pending_in (drop 1) c.args.pending.now c.args.queue c.at_mut.result.now c.pop.new.self c.requires c.at_mut.ensures.value (ap (map pending_of) c.pop.ensures.rest ∙ map_rest pending_of c.at_mut.result.now.items)
