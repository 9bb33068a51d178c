use Rattle.std.proofs.Common.{◌≡◌, map, drop}
use Rattle.line_forms.specs.Parts.{place_of}
use Rattle.line_forms.specs.Reading.{read_parts}
use Rattle.line_forms.proofs.EachWord.{behind_of}
use Rattle.line_forms.proofs.reading.read_parts.Given as goal

abbrev pub invariant-loop-at : goal.invariant-loop-at
invariant-loop-at g l =
    behind_of l.found (read_parts (g.N.Naming.names l.names) (map place_of (drop l.at l.parts)) (drop l.at (map (λ w. w.now) l.words)))
    ≡ read_parts (g.N.Naming.names l.names) (map place_of l.parts) (map (λ w. w.now) l.words)
