use Rattle.std.proofs.Common.{option_map, subst}
use Rattle.d3d_judge.specs.CoverPlaces.{work_pair_of}
use Rattle.d3d_judge.proofs.CoverPlaces.{lifted_is, lifts}
use Rattle.d3d_judge.proofs.cover_places.CoverPlaces.lifted.Goals as goal

pub returns : goal.returns
returns c =
    lifted_is c.args.self (record { copy = c.lifted_where.result; compute = c.lifted_where-2.result; clear = c.lifted_where-3.result }) c.args.concerned c.args.place c.reached_before-reached.result
    c.args.barrier.now (option_map work_pair_of c.args.own) c.reached_before-reached.ensures
    (subst (λ y. lifts y c.args.self.copy c.args.barrier.now.access_after c.reached_before-reached.result c.lifted_where.result) c.applies-copies.ensures c.lifted_where.ensures)
    (subst (λ y. lifts y c.args.self.compute c.args.barrier.now.access_after c.reached_before-reached.result c.lifted_where-2.result) c.applies-computes.ensures c.lifted_where-2.ensures)
    (subst (λ y. lifts y c.args.self.clear c.args.barrier.now.access_after c.reached_before-reached.result c.lifted_where-3.result) c.applies-clears.ensures c.lifted_where-3.ensures)
