use Rattle.std.proofs.Common.{◌≡◌, ◌++◌, drop, map}
use Rattle.trace_lines.specs.Known.{names_of_kind}
use Rattle.trace_lines.proofs.known.names_of_kind.Given as goal

abbrev pub invariant-loop-at : goal.invariant-loop-at
invariant-loop-at l =
    map (λ n. n.now) l.found.items ++ names_of_kind l.kind (drop l.at l.names) (drop l.at l.declared) ≡ names_of_kind l.kind l.names l.declared
