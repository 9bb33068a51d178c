use Rattle.std.proofs.Common.{◌≡◌, ◌+◌, ◌≤◌, ◌++◌, drop, flat_map}
use Rattle.line_forms.specs.Lines.{line_text}
use Rattle.run_text.specs.Text.{answer_lines, replies_in}
use Rattle.run_text.proofs.text.put_thread.Given as goal

abbrev pub invariant-loop-event : goal.invariant-loop-event
invariant-loop-event l =
    (l.out.items ++ flat_map line_text (answer_lines l.name l.call (replies_in l.thread (drop l.event-index l.history)))
    ≡ l.initial.out.items ++ flat_map line_text (answer_lines l.name 1 (replies_in l.thread l.history)))
    × (l.call ≤ l.event-index + 1)
