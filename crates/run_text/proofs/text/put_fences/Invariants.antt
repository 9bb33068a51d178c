use Rattle.std.proofs.Common.{◌≡◌, ◌++◌, drop, flat_map}
use Rattle.line_forms.specs.Lines.{line_text}
use Rattle.run_text.specs.Text.{fence_lines}
use Rattle.run_text.proofs.text.put_fences.Given as goal

abbrev pub invariant-loop-fence : goal.invariant-loop-fence
invariant-loop-fence l =
    l.out.items ++ flat_map line_text (fence_lines l.names l.fence (drop l.fence l.values))
    ≡ l.initial.out.items ++ flat_map line_text (fence_lines l.names 0 l.values)
