use Rattle.std.proofs.Common.{◌≡◌, ◌++◌, map, drop, flat_map}
use Rattle.trace_lines.specs.declared.item.Item.TheVariants.{Calls}
use Rattle.trace_lines.specs.Formed.{item_text}
use Rattle.trace_lines.proofs.printed_calls.put_calls.Given as goal

abbrev pub invariant-loop-call : goal.invariant-loop-call
invariant-loop-call l =
    l.out.items ++ flat_map (item_text l.known) (map Calls (drop l.call-index l.calls))
    ≡ l.initial.out.items ++ flat_map (item_text l.known) (map Calls l.calls)
