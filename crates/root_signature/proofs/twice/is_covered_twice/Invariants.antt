-- So many places were found, and the parameters left have the others.
use Rattle.std.proofs.Common.{◌≡◌, ◌≤◌, ◌+◌, length, drop}
use Rattle.root_signature.specs.Places.{places_from, places_of}
use Rattle.root_signature.proofs.twice.is_covered_twice.Given as goal

abbrev pub invariant-loop-param : goal.invariant-loop-param
invariant-loop-param l =
    (l.found ≤ 1)
    × (l.found + length (places_from l.param-index (drop l.param-index l.params) l.class l.register) ≡ length (places_of l.params l.class l.register))
