use Rattle.std.proofs.Common.{◌≡◌, ◌∷◌, [], map, subst}
use Rattle.clocks.specs.Clocks.{zero_clock}
use Rattle.d3d_judge.specs.CarriedClocks.{updates_in}
use Rattle.d3d_judge.proofs.CarriedClocks.{first_is}
use Rattle.d3d_judge.proofs.carried_clocks.CarriedClocks.new.Goals as goal

pub returns : goal.returns
returns c =
    first_is c.args.world.now c.len-queues.result c.len-threads.result c.in_ok-new.field-0 c.in_ok-equal_clocks.field-0 c.in_ok-equal_clocks-2.field-0 c.in_ok-no_work.field-0
    c.in_ok-first_updates.field-0 c.in_ok-no_waits.field-0 c.len-queues.ensures c.len-threads.ensures c.in_ok-new.ensures c.in_ok-equal_clocks.ensures c.in_ok-equal_clocks-2.ensures
    c.in_ok-no_work.ensures
    (subst (λ vs. map updates_in c.in_ok-first_updates.field-0 ≡ map (λ v. record { value = v; clock = zero_clock c.len-queues.result c.len-threads.result } ∷ []) vs) c.as_slice.ensures c.in_ok-first_updates.ensures)
    c.in_ok-no_waits.ensures
