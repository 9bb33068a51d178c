use Rattle.std.proofs.Common.{◌≡◌, map, take}
use Rattle.trace_lines.specs.Known.{names_of_kind}
use Rattle.trace_lines.specs.Things.{kinds}
use Rattle.trace_lines.proofs.known.Known.of.Given as goal

abbrev pub invariant-loop-kind : goal.invariant-loop-kind
invariant-loop-kind l =
    map (λ t. map (λ n. n.now) t.items) l.tables.items ≡ map (λ k. names_of_kind k l.names l.declared) (take l.kind-index kinds)
