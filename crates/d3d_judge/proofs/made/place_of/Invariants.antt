use Rattle.std.proofs.Common.{◌≡◌, drop}
use Rattle.std.specs.List.{list_any}
use Rattle.d3d_judge.specs.Prepared.{is_for}
use Rattle.d3d_judge.proofs.made.place_of.Given as goal

abbrev pub invariant-loop-at : goal.invariant-loop-at
invariant-loop-at l = list_any (is_for l.actor) (drop l.at l.prepared) ≡ list_any (is_for l.actor) l.prepared
