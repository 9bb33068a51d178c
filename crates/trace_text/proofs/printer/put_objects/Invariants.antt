use Rattle.std.proofs.Common.{◌≡◌, ◌++◌, drop, flat_map}
use Rattle.trace_text.specs.Items.{object_items}
use Rattle.trace_lines.specs.Formed.{item_text}
use Rattle.trace_text.proofs.printer.put_objects.Given as goal

abbrev pub invariant-loop-at : goal.invariant-loop-at
invariant-loop-at l =
    l.out.items ++ flat_map (item_text l.known) (object_items (drop l.at l.names) (drop l.at l.objects))
    ≡ l.initial.out.items ++ flat_map (item_text l.known) (object_items l.names l.objects)
