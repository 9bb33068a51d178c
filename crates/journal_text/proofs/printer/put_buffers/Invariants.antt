-- The rest is still to be printed.
use Rattle.std.proofs.Common.{◌≡◌, ◌++◌, drop, flat_map}
use Rattle.journal_text.specs.Printing.{buffer_text}
use Rattle.journal_text.proofs.printer.put_buffers.Given as goal

abbrev pub invariant-loop-buffer : goal.invariant-loop-buffer
invariant-loop-buffer l = l.out.items ++ flat_map buffer_text (drop l.buffer-index l.buffers) ≡ l.initial.out.items ++ flat_map buffer_text l.buffers
