-- The rest is still to be printed.
use Rattle.std.proofs.Common.{◌≡◌, ◌++◌, drop, flat_map}
use Rattle.journal_text.specs.Printing.{heap_text}
use Rattle.journal_text.proofs.printer.put_heaps.Given as goal

abbrev pub invariant-loop-slots : goal.invariant-loop-slots
invariant-loop-slots l = l.out.items ++ flat_map heap_text (drop l.slots-index l.heaps) ≡ l.initial.out.items ++ flat_map heap_text l.heaps
