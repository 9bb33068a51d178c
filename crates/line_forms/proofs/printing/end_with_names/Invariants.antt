use Rattle.std.proofs.Common.{◌≡◌, ◌++◌, map, drop}
use Rattle.line_forms.specs.Lines.{rest_of_line}
use Rattle.line_forms.proofs.printing.end_with_names.Given as goal

abbrev pub invariant-loop-number : goal.invariant-loop-number
invariant-loop-number g l =
    l.out.items ++ rest_of_line (map (g.N.Named.known l.names l.kind) (drop l.number-index l.numbers))
    ≡ l.initial.out.items ++ rest_of_line (map (g.N.Named.known l.names l.kind) l.numbers)
