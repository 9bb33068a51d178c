use Rattle.std.proofs.Common.{◌≡◌, ◌++◌, drop, flat_map}
use Rattle.line_forms.specs.Lines.{line_text}
use Rattle.run_text.specs.Text.{call_lines}
use Rattle.run_text.proofs.text.put_calls.Given as goal

abbrev pub invariant-loop-thread : goal.invariant-loop-thread
invariant-loop-thread l =
    l.out.items ++ flat_map line_text (call_lines l.thread (drop l.thread l.names) l.history)
    ≡ l.initial.out.items ++ flat_map line_text (call_lines 0 l.names l.history)
