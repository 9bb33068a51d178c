use Rattle.std.proofs.Common.{◌≡◌, ◌++◌, take, drop, map}
use Rattle.barrier_lowering.proofs.layouts.change_all.Given as goal

abbrev pub invariant-loop-layout : goal.invariant-loop-layout
invariant-loop-layout l = l.subs ≡ map (λ _. l.new) (take l.layout-index l.initial.subs) ++ drop l.layout-index l.initial.subs
