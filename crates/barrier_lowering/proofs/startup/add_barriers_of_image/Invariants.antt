use Rattle.std.proofs.Common.{◌≡◌, ◌-◌, ◌++◌}
use Rattle.barrier_lowering.specs.Startup.{startup_of_image}
use Rattle.barrier_lowering.proofs.startup.add_barriers_of_image.Given as goal

abbrev pub invariant-loop-sub : goal.invariant-loop-sub
invariant-loop-sub l = l.commands ++ startup_of_image l.image l.layout l.sub (l.subs - l.sub) ≡ l.initial.commands ++ startup_of_image l.image l.layout 0 l.subs
