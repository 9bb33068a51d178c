use Rattle.std.proofs.Common.{◌≡◌, replicate}
use Rattle.barrier_lowering.proofs.layouts.subs_in.Given as goal

abbrev pub invariant-loop-sub : goal.invariant-loop-sub
invariant-loop-sub l = l.layouts ≡ replicate l.sub l.layout
