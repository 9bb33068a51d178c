use Rattle.std.proofs.Common.{◌≡◌, map, take}
use Rattle.dx_base.specs.declared.ids.ListId.{ListId}
use Rattle.trace_lines.proofs.printed_calls.numbers_of.Given as goal

abbrev pub invariant-loop-list : goal.invariant-loop-list
invariant-loop-list l = l.numbers ≡ map (λ (x : ListId). x.0) (take l.list-index l.lists)
