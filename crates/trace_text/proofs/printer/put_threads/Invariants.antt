use Rattle.std.proofs.Common.{◌≡◌, ◌++◌, drop, flat_map}
use Rattle.trace_lines.specs.Formed.{item_text}
use Rattle.trace_text.specs.Items.{thread_items}
use Rattle.trace_text.proofs.printer.put_threads.Given as goal

abbrev pub invariant-loop-at : goal.invariant-loop-at
invariant-loop-at l =
    l.out.items ++ flat_map (item_text l.known) (thread_items (drop l.at l.names) (drop l.at l.scripts))
    ≡ l.initial.out.items ++ flat_map (item_text l.known) (thread_items l.names l.scripts)
