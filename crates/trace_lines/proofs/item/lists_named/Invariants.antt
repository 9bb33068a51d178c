use Rattle.std.proofs.Common.{◌≡◌, map, take}
use Rattle.trace_lines.specs.Formed.{list_named}
use Rattle.trace_lines.proofs.item.lists_named.Given as goal

abbrev pub invariant-loop-number : goal.invariant-loop-number
invariant-loop-number l = l.lists ≡ map list_named (take l.number-index l.numbers)
