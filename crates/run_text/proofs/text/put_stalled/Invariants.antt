use Rattle.std.proofs.Common.{◌≡◌, ◌++◌, drop, flat_map}
use Rattle.line_forms.specs.Lines.{line_text}
use Rattle.run_text.specs.Text.{stalled_lines}
use Rattle.run_text.proofs.text.put_stalled.Given as goal

abbrev pub invariant-loop-number : goal.invariant-loop-number
invariant-loop-number l =
    l.out.items ++ flat_map line_text (stalled_lines l.kind l.names (drop l.number-index l.numbers))
    ≡ l.initial.out.items ++ flat_map line_text (stalled_lines l.kind l.names l.numbers)
